-- Opened lines, and the seats of workers at them.
use Rattle.std.proofs.Common.{◌≡◌, ℕ, ◌+◌, ◌<◌, length, take, slice_index_or, ◌∙◌, map, Bool, true, false, refl, List, [], ◌∷◌, ◌++◌, All, sym, ap, subst}
use Rattle.std.proofs.lemmas.List.{map-append, take_more}
use Rattle.std.proofs.lemmas.List.Elements.{All-weaker}
use Rattle.std.proofs.lemmas.Slice.Zip.{all_zipped_more}
use Rattle.dp_line.specs.declared.description.LineSpec.{LineSpec}
use Rattle.dp_shared.specs.declared.one_slot.OneSlot.{OneSlot}
use Rattle.dp_shared.specs.Claims.{Claiming, IsNewSeat, Seated}
use Rattle.dp_sessions.specs.Pools.{HasSeats, IsSeatAt}
use Rattle.dp_sessions.specs.declared.port.LineAndClaims.{LineAndClaims}
use Rattle.serve_sockets.specs.declared.line_ports.LinePorts.{LinePorts}
use Rattle.serve_lines.specs.declared.served_line.ServedLine.{ServedLine}
use Rattle.serve_lines.specs.MasterSessions.{place_at}
use Rattle.serve_lines.specs.ServedLines.{as_opened, line_numbers, masters_of}
use Rattle.serve_lines.specs.OpenedLines.{AreOpened, IsOneMore, IsPortOf}
use Rattle.serve_lines.specs.AuditTexts.{line_at}
use Rattle.serve_lines.specs.ServedLines.{specs_of}

-- there is one more port, and these are seats at it
pub record AreFresh {L : Type 0} (before after : List (LineAndClaims L Claiming)) (fresh : List Seated) : Type 0 where
  pub port : LineAndClaims L Claiming
  pub more : after ≡ before ++ port ∷ []
  pub each : All (IsSeatAt port.claims) fresh

-- new seats hold nothing
pub new_seats : (claims : Claiming) (fresh : List Seated) → All (IsNewSeat claims.table) fresh → All (IsSeatAt claims) fresh
new_seats claims fresh all = All-weaker (IsNewSeat claims.table) (IsSeatAt claims) (λ seat new. (new.0, ap (λ v. v.held) new.1)) fresh all

-- a worker with a seat at each port and a seat at the new port
pub one_more_seat : {L : Type 0} (before after : List (LineAndClaims L Claiming)) (fresh : List Seated) (own : List Seated) (seat : Seated)
    → (new : AreFresh before after fresh) → HasSeats before own → IsSeatAt new.port.claims seat → HasSeats after (own ++ seat ∷ [])
one_more_seat before after fresh own seat new has here =
    subst (λ ports. HasSeats ports (own ++ seat ∷ [])) (sym new.more) (all_zipped_more (λ port s. IsSeatAt port.claims s) before own new.port seat has here)

-- one more line is opened
pub opened_more : {S V P : Type 0} (lines longer : List ServedLine) (line : ServedLine) (before after : List (LineAndClaims (OneSlot S V LineSpec P) Claiming))
    → longer ≡ lines ++ line ∷ [] → AreOpened lines before → IsOneMore line.spec before after → AreOpened longer after
opened_more lines longer line before after more so_far (port, grown, here) =
    rw (more, grown) (all_zipped_more (λ l p. IsPortOf l.spec p) lines before line port so_far here)

-- the lines at the ports are those that were opened
pub opened_specs : {S V P : Type 0} (lines : List ServedLine) (ports : List (LineAndClaims (OneSlot S V LineSpec P) Claiming)) → AreOpened lines ports → map line_at ports ≡ specs_of lines
opened_specs [] [] opened = refl
opened_specs [] (port ∷ ports) opened = absurd opened
opened_specs (line ∷ lines) [] opened = absurd opened
opened_specs (line ∷ lines) (port ∷ ports) opened = rw (opened.0.0, opened_specs lines ports opened.1)

-- the masters at the ports are those of the lines
pub masters_at : {S V P : Type 0} (lines : List ServedLine) (ports : List (LineAndClaims (OneSlot S V LineSpec P) Claiming)) → AreOpened lines ports
    → map (λ at. at.masters) (map place_at ports) ≡ masters_of lines
masters_at [] [] opened = refl
masters_at [] (port ∷ ports) opened = absurd opened
masters_at (line ∷ lines) [] opened = absurd opened
masters_at (line ∷ lines) (port ∷ ports) opened = rw (opened.0.1, masters_at lines ports opened.1)

-- a line has the masters of its description, however it is opened
pub opened_masters : (endless : Bool) (lines : List ServedLine) → masters_of (map (as_opened endless) lines) ≡ masters_of lines
opened_masters endless [] = refl
opened_masters true (line ∷ lines) = ap (λ ms. line.spec.masters.items ∷ ms) (opened_masters true lines)
opened_masters false (line ∷ lines) = ap (λ ms. line.spec.masters.items ∷ ms) (opened_masters false lines)

pub one_opened : (endless : Bool) (line : ServedLine) → (as_opened endless line).spec.masters.items ≡ line.spec.masters.items
one_opened true line = refl
one_opened false line = refl

-- a line's number and ports are not changed by its opening
pub opened_numbers : (endless : Bool) (lines : List ServedLine) → line_numbers (map (as_opened endless) lines) ≡ line_numbers lines
opened_numbers endless [] = refl
opened_numbers true (line ∷ lines) = ap (λ ns. line.spec.number ∷ ns) (opened_numbers true lines)
opened_numbers false (line ∷ lines) = ap (λ ns. line.spec.number ∷ ns) (opened_numbers false lines)

-- an ordinary line is opened unchanged
pub opened_as_they_are : (lines : List ServedLine) → map (as_opened false) lines ≡ lines
opened_as_they_are [] = refl
opened_as_they_are (line ∷ lines) = ap (λ ls. line ∷ ls) (opened_as_they_are lines)

-- the ports of one line more have its number
pub one_more_number : (lines : List ServedLine) (i : ℕ) (line : ServedLine) (before after : List LinePorts) (ports : LinePorts)
    → map (λ p. p.line) before ≡ line_numbers (take i lines) → after ≡ before ++ ports ∷ [] → ports.line ≡ line.spec.number → i < length lines
    → line ≡ slice_index_or lines i line → map (λ p. p.line) after ≡ line_numbers (take (i + 1) lines)
one_more_number lines i line before after ports so_far more same within here =
    ap (λ ps. map (λ (p : LinePorts). p.line) ps) more ∙ map-append (λ (p : LinePorts). p.line) before (ports ∷ [])
    ∙ rw (so_far, same) (sym (ap line_numbers (take_more lines i line within ∙ ap (λ l. take i lines ++ l ∷ []) (sym here))
    ∙ map-append (λ (l : ServedLine). l.spec.number) (take i lines) (line ∷ [])))
