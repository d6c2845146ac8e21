-- The first row of an audit text that was read, which names a line of the rack.
use Rattle.std.proofs.Common.{◌≡◌, ℕ, ◌==◌, Bool, true, false, List, [], ◌∷◌, ◌++◌, map, All, Option, Some, None, IfSome, Result, Ok, Err, OnOk, refl, sym, ap, subst, ◌∙◌, append_assoc}
use Rattle.std.specs.Prelude.{find, option_map}
use Rattle.std.specs.Io.KnownBytes.{Keeps}
use Rattle.std.proofs.lemmas.Bool.{ne_eqb}
use Rattle.std.proofs.lemmas.List.{append-nil}
use Rattle.std.proofs.lemmas.List.Elements.{All-nil, All-cons}
use Rattle.std.proofs.lemmas.List.Splits.{slice_split_at, slice_split_none}
use Rattle.dp_line.specs.World.{description_of}
use Rattle.dp_text.specs.Words.{lines_of}
use Rattle.dp_audit.specs.FirstWrong.{HasNoLf}
use Rattle.explain_texts.specs.declared.choice.Choice.{Choice}
use Rattle.explain_texts.specs.ExplainedRows.{Decides}
use Rattle.explain_texts.specs.TextRows.{Begins, EndsAt, TextRead, known_text, lf_if, octets_read}
use Rattle.rack_file.specs.declared.rack.RackLine.{RackLine}
use Rattle.rack_file.specs.Rack.{line_described}
use Rattle.rack_script.specs.Checks.{checked_by_line, checked_on}
use Rattle.rack_script.specs.Explanations.{DecidesOnRack, explained_by_line, explained_on}
use Rattle.rack_script.proofs.Checked.{explained_of_named, is_headed, verdict_of_named}

-- ---- the first line

abbrev ends : ℕ → Bool
ends octet = octet == 10

no_end : (line : List ℕ) → HasNoLf line → All (λ octet. ends octet ≡ false) line
no_end [] none = All-nil (λ octet. ends octet ≡ false)
no_end (octet ∷ line) none = All-cons (λ octet. ends octet ≡ false) octet line (ne_eqb octet 10 none.0) (no_end line none.1)

-- this is the first line of a text
pub record FirstLine (text row : List ℕ) : Type 0 where
  pub others : List (List ℕ)
  pub is : lines_of text ≡ row ∷ others

octets_are : (text : TextRead) (whole : Bool) → text.past ≡ [] → text.whole ≡ whole → octets_read text ≡ text.row ++ lf_if whole
octets_are text whole first is = ap (λ (past : List ℕ). past ++ (text.row ++ lf_if text.whole)) first ∙ ap (λ (w : Bool). text.row ++ lf_if w) is

part_first : (text : TextRead) → text.past ≡ [] → text.whole ≡ false → HasNoLf text.row → FirstLine (octets_read text) text.row
part_first text first part none = record {
  others = [];
  is = ap lines_of (octets_are text false first part ∙ append-nil text.row) ∙ slice_split_none ends text.row (no_end text.row none);
}

whole_first : (text : TextRead) (behind : List ℕ) → text.past ≡ [] → text.whole ≡ true → HasNoLf text.row → FirstLine (octets_read text ++ behind) text.row
whole_first text behind first whole none = record {
  others = lines_of behind;
  is =
      ap (λ (t : List ℕ). lines_of (t ++ behind)) (octets_are text true first whole)
      ∙ ap lines_of (append_assoc text.row (10 ∷ []) behind)
      ∙ slice_split_at ends text.row 10 behind (no_end text.row none) refl;
}

first_by : (text new : TextRead) (whole : Bool) → text.past ≡ [] → text.whole ≡ whole → HasNoLf text.row → Begins (octets_read text) (octets_read new) → (text.whole ≡ false → new ≡ text) → FirstLine (octets_read new) text.row
first_by text new true first whole none begins unread = subst (λ (t : List ℕ). FirstLine t text.row) (sym begins.1) (whole_first text begins.0 first whole none)
first_by text new false first part none begins unread =
    subst (λ (t : List ℕ). FirstLine t text.row) (sym (ap octets_read (unread part))) (part_first text first part none)

-- the first row is the first line, whatever was read behind it
pub first_line : (text new : TextRead) → text.past ≡ [] → HasNoLf text.row → Begins (octets_read text) (octets_read new) → (text.whole ≡ false → new ≡ text) → FirstLine (octets_read new) text.row
first_line text new first none begins unread = first_by text new text.whole first refl none begins unread

begins_itself : (text : List ℕ) → Begins text text
begins_itself text = ([], sym (append-nil text))

pub only_line : (text : TextRead) → text.past ≡ [] → HasNoLf text.row → FirstLine (octets_read text) text.row
only_line text first none = first_line text text first none (begins_itself (octets_read text)) (λ part. refl)

-- ---- the line that it names

-- what is checked on the line that was found; on none, each text is bad
pub verdict_is : (workers : ℕ) (lines : List RackLine) (text row : List ℕ) (found : Option RackLine) → FirstLine text row → found ≡ find (is_headed row) lines
    → checked_on (record { workers = workers; lines = map line_described lines }) text ≡ checked_by_line (option_map line_described found) text
verdict_is workers lines text row found line named = verdict_of_named workers lines text row line.others found line.is named

pub explanation_is : (workers : ℕ) (lines : List RackLine) (text row : List ℕ) (found : Option RackLine) (choice : Choice) → FirstLine text row → found ≡ find (is_headed row) lines
    → explained_on (record { workers = workers; lines = map line_described lines }) text choice ≡ explained_by_line (option_map line_described found) text choice
explanation_is workers lines text row found choice line named = explained_of_named workers lines text row line.others found choice line.is named

-- ---- what was read decides

abbrev pub DecidesLine : Option RackLine → List ℕ → List ℕ → Type 0
DecidesLine None read text = Unit {0}
DecidesLine (Some line) read text = Decides (description_of line.spec) read text

same_check : (found : Option RackLine) (read text : List ℕ) → DecidesLine found read text → checked_by_line (option_map line_described found) text ≡ checked_by_line (option_map line_described found) read
same_check None read text decides = refl
same_check (Some line) read text decides = decides.same_check

same_explanation : (found : Option RackLine) (read text : List ℕ) (choice : Choice) → DecidesLine found read text
    → explained_by_line (option_map line_described found) text choice ≡ explained_by_line (option_map line_described found) read choice
same_explanation None read text choice decides = refl
same_explanation (Some line) read text choice decides = decides.same_explanation choice

on_rack : (workers : ℕ) (lines : List RackLine) (read text row : List ℕ) (found : Option RackLine) → FirstLine read row → FirstLine text row → found ≡ find (is_headed row) lines → DecidesLine found read text
    → DecidesOnRack (record { workers = workers; lines = map line_described lines }) read text
on_rack workers lines read text row found first second named decides = record {
  same_check = verdict_is workers lines text row found second named ∙ same_check found read text decides ∙ sym (verdict_is workers lines read row found first named);
  same_explanation = λ choice.
      explanation_is workers lines text row found choice second named
      ∙ same_explanation found read text choice decides
      ∙ sym (explanation_is workers lines read row found choice first named);
}

itself : (workers : ℕ) (lines : List RackLine) (read text : List ℕ) → read ≡ text → DecidesOnRack (record { workers = workers; lines = map line_described lines }) read text
itself workers lines read text is = subst (DecidesOnRack (record { workers = workers; lines = map line_described lines }) read) is (record { same_check = refl; same_explanation = λ choice. refl })

-- what the first row was, and what is read behind it
pub record IsFirstRow (left left_after : Option (List ℕ)) (before text : TextRead) : Type 0 where
  pub first : text.past ≡ []
  pub no_lf : HasNoLf text.row
  pub kept : Keeps (known_text before left) (known_text text left_after)
  pub end : text.whole ≡ false → EndsAt left left_after

by_whole : (P : List ℕ → Type 0) (octets behind text : List ℕ) (left : List ℕ) (whole : Bool) → octets ++ behind ≡ text → (whole ≡ false → EndsAt (Some left) (Some behind)) → (whole ≡ true → P (octets ++ behind)) → (whole ≡ false → P octets) → P text
by_whole P octets behind text left true kept end on alone = subst P kept (on refl)
by_whole P octets behind text left false kept end on alone =
    let none : ◌≡◌ {A = Option (List ℕ)} (Some behind) (Some []) = end refl in
    let empty : behind ≡ [] = cc in
    subst P (sym (append-nil octets) ∙ ap (λ (b : List ℕ). octets ++ b) (sym empty) ∙ kept) (alone refl)

known_by : (P : List ℕ → Type 0) (left left_after : Option (List ℕ)) (before text : TextRead) → IsFirstRow left left_after before text
    → ((behind : List ℕ) → left_after ≡ Some behind → text.whole ≡ true → P (octets_read text ++ behind)) → (text.whole ≡ false → P (octets_read text)) → IfSome (known_text before left) P
known_by P None left_after before text row on alone = tt
known_by P (Some left) None before text row on alone = absurd row.kept
known_by P (Some left) (Some behind) before text row on alone =
    by_whole P (octets_read text) behind (octets_read before ++ left) left text.whole row.kept row.end (on behind refl) alone

-- the line that was found decides, if the row is whole
pub decides_on_rack : (workers : ℕ) (lines : List RackLine) (left left_after : Option (List ℕ)) (before text new : TextRead) (found : Option RackLine) → IsFirstRow left left_after before text → FirstLine (octets_read new) text.row
    → found ≡ find (is_headed text.row) lines → (text.whole ≡ false → new ≡ text) → (text.whole ≡ true → IfSome (known_text text left_after) (DecidesLine found (octets_read new)))
    → IfSome (known_text before left) (DecidesOnRack (record { workers = workers; lines = map line_described lines }) (octets_read new))
decides_on_rack workers lines left left_after before text new found row line named unread decides =
    known_by (DecidesOnRack (record { workers = workers; lines = map line_described lines }) (octets_read new)) left left_after before text row
    (λ behind is whole.
    on_rack workers lines (octets_read new) (octets_read text ++ behind) text.row found line (whole_first text behind row.first whole row.no_lf) named
    (subst (λ (o : Option (List ℕ)). IfSome (known_text text o) (DecidesLine found (octets_read new))) is (decides whole)))
    (λ part. itself workers lines (octets_read new) (octets_read text) (ap octets_read (unread part)))

-- no line decides each text
pub none_decides : (known : Option (List ℕ)) (read : List ℕ) → IfSome known (DecidesLine None read)
none_decides None read = tt
none_decides (Some text) read = tt

-- the same, if the call that read the text succeeded
pub decides_if_ok : {T E : Type 0} (result : Result T E) (workers : ℕ) (lines : List RackLine) (left left_after : Option (List ℕ)) (before text new : TextRead) (found : Option RackLine) → IsFirstRow left left_after before text
    → FirstLine (octets_read new) text.row → found ≡ find (is_headed text.row) lines → (text.whole ≡ false → new ≡ text) → (text.whole ≡ true → OnOk result (IfSome (known_text text left_after) (DecidesLine found (octets_read new))))
    → OnOk result (IfSome (known_text before left) (DecidesOnRack (record { workers = workers; lines = map line_described lines }) (octets_read new)))
decides_if_ok (Ok value) workers lines left left_after before text new found row line named unread decides = decides_on_rack workers lines left left_after before text new found row line named unread decides
decides_if_ok (Err fault) workers lines left left_after before text new found row line named unread decides = tt

pub none_if_ok : {T E : Type 0} (result : Result T E) (known : Option (List ℕ)) (read : List ℕ) → OnOk result (IfSome known (DecidesLine None read))
none_if_ok (Ok value) known read = none_decides known read
none_if_ok (Err fault) known read = tt

-- the row as it was shown
pub named_by : (lines : List RackLine) (shown row : List ℕ) (found : Option RackLine) → shown ≡ row → found ≡ find (is_headed shown) lines → found ≡ find (is_headed row) lines
named_by lines shown row found same named = named ∙ ap (λ (r : List ℕ). find (is_headed r) lines) same
