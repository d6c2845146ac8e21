-- The lines of a legal text are those of its entries, and each is read as its event.
use Rattle.std.proofs.Common.{◌≡◌, ℕ, suc, Bool, true, false, cond, List, [], ◌∷◌, length, take, drop, map, Option, Some, None, refl, sym, ap, ◌∙◌, arith}
use Rattle.std.specs.Prelude.{is_none, option_map, option_and_then}
use Rattle.dp_line.specs.declared.event.Event.{Event}
use Rattle.dp_line.specs.World.{Description, World}
use Rattle.dp_text.specs.Words.{lines_of}
use Rattle.dp_audit.specs.declared.entry.Entry.{Entry}
use Rattle.dp_audit.specs.AuditText.{entry_text}
use Rattle.dp_audit.specs.Check.{IsAuditOf, places_of_header, places_of_lines, LineParts, Placed, not_the_policy, right, last_parts, parted, placed_of, judged_placed, judged_parts, judged_line}
use Rattle.dp_audit.proofs.Headers.{accepted_has_no_lf}
use Rattle.dp_audit.proofs.Texts.{audit_lines, entry_lines}
use Rattle.explain_texts.specs.Explained.{event_of_row}

-- ---- a line that is judged right is read as its event

event_is : (test : Bool) (found event : Event) → cond test (right found) not_the_policy ≡ right event → ◌≡◌ {A = Option Event} (Some found) (Some event)
event_is true found event e = cc
event_is false found event e = absurd cc

by_placed : (world : World) (parts : LineParts) (placed : Option Placed) (event : Event) → judged_placed world parts placed ≡ right event → option_map (λ (p : Placed). p.event) placed ≡ Some event
by_placed world parts None event e = absurd cc
by_placed world parts (Some placed) event e = event_is _ placed.event event e

by_test : (world : World) (front : List ℕ) (parts : List ℕ × List ℕ) (event : Event) (test : Bool)
    → judged_parts world (cond test (Some (record { placed = front; facts = parts.0; outcome = parts.1 })) None) ≡ right event → option_map (λ (p : Placed). p.event) (placed_of front) ≡ Some event
by_test world front parts event true e = by_placed world (record { placed = front; facts = parts.0; outcome = parts.1 }) (placed_of front) event e
by_test world front parts event false e = absurd cc

by_second : (world : World) (front : List ℕ) (event : Event) (found : Option (List ℕ × List ℕ))
    → judged_parts world (option_and_then (last_parts front) found) ≡ right event → option_map (λ (p : Placed). p.event) (placed_of front) ≡ Some event
by_second world front event None e = absurd cc
by_second world front event (Some parts) e = by_test world front parts event (is_none (parted parts.1)) e

by_first : (world : World) (event : Event) (found : Option (List ℕ × List ℕ))
    → judged_parts world (option_and_then (λ (first : List ℕ × List ℕ). option_and_then (last_parts first.0) (parted first.1)) found) ≡ right event
    → option_and_then (λ (parts : List ℕ × List ℕ). option_map (λ (p : Placed). p.event) (placed_of parts.0)) found ≡ Some event
by_first world event None e = absurd cc
by_first world event (Some parts) e = by_second world parts.0 event (parted parts.1) e

pub row_is_read : (world : World) (row : List ℕ) (event : Event) → judged_line world row ≡ right event → event_of_row row ≡ Some event
row_is_read world row event e = by_first world event (parted row) e

-- ---- the lines after the header

one_more : (entry : Entry) (entries : List Entry) → length (entry ∷ entries) ≡ suc (length entries)
one_more entry entries = omega arith

entry_rows : (entries : List Entry) → take (length entries) (entry_lines entries) ≡ map entry_text entries
entry_rows [] = refl
entry_rows (entry ∷ entries) =
    ap (λ (n : ℕ). take n (entry_text entry ∷ entry_lines entries)) (one_more entry entries)
    ∙ ap (λ (rows : List (List ℕ)). entry_text entry ∷ rows) (entry_rows entries)

pub rows_are : (line : Description) (text : List ℕ) (count : ℕ) (audit : IsAuditOf line text count) → take count (drop 1 (lines_of text)) ≡ map entry_text audit.entries
rows_are line text count audit =
    ap (λ (lines : List (List ℕ)). take count (drop 1 lines)) (ap lines_of audit.written ∙ audit_lines audit.header audit.entries (accepted_has_no_lf line audit.header audit.headed))
    ∙ ap (λ (n : ℕ). take n (entry_lines audit.entries)) (sym audit.counted)
    ∙ entry_rows audit.entries

-- the line on which the text is judged has the number of places that its header stands for
pub places_are : (line : Description) (text : List ℕ) (count : ℕ) (audit : IsAuditOf line text count) → places_of_lines line (lines_of text) ≡ places_of_header line audit.header
places_are line text count audit = ap (places_of_lines line) (ap lines_of audit.written ∙ audit_lines audit.header audit.entries (accepted_has_no_lf line audit.header audit.headed))
