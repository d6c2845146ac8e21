-- The text that a run has written so far, and the lines that remain.
use Rattle.std.proofs.Common.{◌≡◌, ℕ, ◌+◌, List, [], ◌∷◌, ◌++◌, Option, Some, None, Result, Ok, Err, refl, sym, ap, subst, ◌∙◌, append_assoc}
use Rattle.std.specs.Io.KnownBytes.{Appends}
use Rattle.std.proofs.lemmas.List.{append-nil}
use Rattle.embedded_rack.specs.declared.obey_fault.ObeyFault.TheVariants as stops
use Rattle.rack_script.specs.declared.run_fault.RunFault.TheVariants as runs
use Rattle.rack_script.specs.ScriptText.{ScriptRack, Obeyed, Played, after_line, play, line_obeyed, going_on, script_text}
use Rattle.dp_text.specs.Writes.{WritesPrefix}
use Rattle.rack_script.specs.Runs.{Obeys, Plays, RunsText}
use Rattle.embedded_rack.proofs.Writing.{appends_none, appends_more, keeps_more, keeps_same, more_prefix}
use Rattle.rack_file.specs.declared.fault.RackFault.{RackFault}
use Rattle.rack_file.specs.Rack.{RackDescription}

-- this text is written, and the text of the remaining lines would complete the run
pub record SoFar (played : Played) (old new : Option (List ℕ)) (script_rack : ScriptRack) (n : ℕ) (lines : List (List ℕ)) : Type 0 where
  pub text : List ℕ
  pub written : Appends old new text
  pub left : after_line text (play script_rack n lines) ≡ played

pub start : (old : Option (List ℕ)) (script_rack : ScriptRack) (lines : List (List ℕ)) → SoFar (play script_rack 1 lines) old old script_rack 1 lines
start old script_rack lines = record { text = []; written = appends_none old; left = refl }

pub at_end : (played : Played) (old new : Option (List ℕ)) (script_rack : ScriptRack) (n : ℕ) → SoFar played old new script_rack n [] → Plays played old new (Ok tt)
at_end played old new script_rack n s = (ap (λ (p : Played). p.fault) (sym s.left), subst (Appends old new) (sym (append-nil s.text) ∙ ap (λ (p : Played). p.text) s.left) s.written)

pub at_fault : (played : Played) (old new : Option (List ℕ)) (script_rack : ScriptRack) (n : ℕ) (line : List ℕ) (lines : List (List ℕ)) → SoFar played old new script_rack n (line ∷ lines)
    → line_obeyed script_rack line ≡ None → Plays played old new (Err (runs.Script n))
at_fault played old new script_rack n line lines s none =
    let stopped : after_line s.text (record { text = []; fault = Some n }) ≡ played = ap (λ o. after_line s.text (going_on o n (λ next. play next (n + 1) lines))) (sym none) ∙ s.left in
    (ap (λ (p : Played). p.fault) (sym stopped), subst (Appends old new) (sym (append-nil s.text) ∙ ap (λ (p : Played). p.text) stopped) s.written)

pub prefix_so_far : (played : Played) (old new : Option (List ℕ)) (script_rack : ScriptRack) (n : ℕ) (lines : List (List ℕ)) → SoFar played old new script_rack n lines → WritesPrefix old new played.text
prefix_so_far played old new script_rack n lines s = (s.text, (play script_rack n lines).text, ap (λ (p : Played). p.text) (sym s.left), s.written)

pub line_left : (text : List ℕ) (script_rack next : ScriptRack) (n : ℕ) (line more : List ℕ) (lines : List (List ℕ)) → line_obeyed script_rack line ≡ Some (record { script_rack = next; text = more })
    → after_line text (play script_rack n (line ∷ lines)) ≡ after_line (text ++ more) (play next (n + 1) lines)
line_left text script_rack next n line more lines reported =
    ap (λ o. after_line text (going_on o n (λ d. play d (n + 1) lines))) reported
    ∙ ap (λ t. record { text = t; fault = (play next (n + 1) lines).fault }) (sym (append_assoc text more (play next (n + 1) lines).text))

pub line_played : (played : Played) (old new newer : Option (List ℕ)) (script_rack next : ScriptRack) (n : ℕ) (line more : List ℕ) (lines : List (List ℕ)) → SoFar played old new script_rack n (line ∷ lines)
    → line_obeyed script_rack line ≡ Some (record { script_rack = next; text = more }) → Appends new newer more → SoFar played old newer next (n + 1) lines
line_played played old new newer script_rack next n line more lines s reported written = record {
  text = s.text ++ more;
  written = appends_more old new newer s.text more s.written written;
  left = sym (line_left s.text script_rack next n line more lines reported) ∙ s.left;
}

pub line_cut : (played : Played) (old new newer : Option (List ℕ)) (script_rack next : ScriptRack) (n : ℕ) (line more : List ℕ) (lines : List (List ℕ)) → SoFar played old new script_rack n (line ∷ lines)
    → line_obeyed script_rack line ≡ Some (record { script_rack = next; text = more }) → WritesPrefix new newer more → WritesPrefix old newer played.text
line_cut played old new newer script_rack next n line more lines s reported cut =
    more_prefix old new newer s.text more (play next (n + 1) lines).text played.text s.written cut
    (sym (append_assoc s.text more (play next (n + 1) lines).text) ∙ ap (λ (p : Played). p.text) (sym (line_left s.text script_rack next n line more lines reported) ∙ s.left))

-- ---- a line that was obeyed, or wasn't

done_by : (played : Played) (old new newer : Option (List ℕ)) (script_rack next : ScriptRack) (n : ℕ) (line : List ℕ) (lines : List (List ℕ)) (obeyed : Option Obeyed) → line_obeyed script_rack line ≡ obeyed
    → SoFar played old new script_rack n (line ∷ lines) → Obeys obeyed next new newer (Ok tt) → SoFar played old newer next (n + 1) lines
done_by played old new newer script_rack next n line lines None is s obeys = absurd obeys
done_by played old new newer script_rack next n line lines (Some obeyed) is s obeys =
    line_played played old new newer script_rack next n line obeyed.text lines s (is ∙ ap (λ d. Some (record { script_rack = d; text = obeyed.text })) (sym obeys.0)) obeys.1

pub line_done : (played : Played) (old new newer : Option (List ℕ)) (script_rack next : ScriptRack) (n : ℕ) (line : List ℕ) (lines : List (List ℕ))
    → SoFar played old new script_rack n (line ∷ lines) → Obeys (line_obeyed script_rack line) next new newer (Ok tt) → SoFar played old newer next (n + 1) lines
line_done played old new newer script_rack next n line lines s obeys = done_by played old new newer script_rack next n line lines (line_obeyed script_rack line) refl s obeys

none_by : (played : Played) (old new newer : Option (List ℕ)) (script_rack next : ScriptRack) (n : ℕ) (line : List ℕ) (lines : List (List ℕ)) (obeyed : Option Obeyed) → line_obeyed script_rack line ≡ obeyed
    → SoFar played old new script_rack n (line ∷ lines) → Obeys obeyed next new newer (Err stops.NoCommand) → Plays played old newer (Err (runs.Script n))
none_by played old new newer script_rack next n line lines None is s obeys =
    at_fault played old newer script_rack n line lines (record { text = s.text; written = keeps_more old new newer s.text s.written obeys; left = s.left }) is
none_by played old new newer script_rack next n line lines (Some obeyed) is s obeys = absurd obeys

pub line_is_none : (played : Played) (old new newer : Option (List ℕ)) (script_rack next : ScriptRack) (n : ℕ) (line : List ℕ) (lines : List (List ℕ))
    → SoFar played old new script_rack n (line ∷ lines) → Obeys (line_obeyed script_rack line) next new newer (Err stops.NoCommand) → Plays played old newer (Err (runs.Script n))
line_is_none played old new newer script_rack next n line lines s obeys = none_by played old new newer script_rack next n line lines (line_obeyed script_rack line) refl s obeys

fault_by : (played : Played) (old new newer : Option (List ℕ)) (script_rack next : ScriptRack) (n : ℕ) (line : List ℕ) (lines : List (List ℕ)) (obeyed : Option Obeyed) → line_obeyed script_rack line ≡ obeyed
    → SoFar played old new script_rack n (line ∷ lines) → Obeys obeyed next new newer (Err stops.WriteFault) → WritesPrefix old newer played.text
fault_by played old new newer script_rack next n line lines None is s obeys = absurd obeys
fault_by played old new newer script_rack next n line lines (Some obeyed) is s obeys = line_cut played old new newer script_rack obeyed.script_rack n line obeyed.text lines s is obeys

pub line_written_in_part : (played : Played) (old new newer : Option (List ℕ)) (script_rack next : ScriptRack) (n : ℕ) (line : List ℕ) (lines : List (List ℕ))
    → SoFar played old new script_rack n (line ∷ lines) → Obeys (line_obeyed script_rack line) next new newer (Err stops.WriteFault) → WritesPrefix old newer played.text
line_written_in_part played old new newer script_rack next n line lines s obeys = fault_by played old new newer script_rack next n line lines (line_obeyed script_rack line) refl s obeys

-- memory ran out before anything was written
pub memory_reported : (rack : Result RackDescription RackFault) (script : List ℕ) (old : Option (List ℕ)) → RunsText rack script old old (Err runs.OutOfMemory)
memory_reported (Ok rack) script old = ([], (script_text rack script).text, refl, appends_none old)
memory_reported (Err fault) script old = keeps_same old
