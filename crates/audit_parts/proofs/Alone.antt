-- A text without heads.
use Rattle.std.proofs.Common.{◌≡◌, ℕ, ◌+◌, ◌==◌, ◌&&◌, ◌||◌, Bool, true, false, cond, List, [], ◌∷◌, ◌++◌, length, Option, None, Result, inl, inr, refl, sym, ap, ◌∙◌}
use Rattle.std.specs.Prelude.{is_some}
use Rattle.std.specs.List.{AllByRecursion, onto_first}
use Rattle.std.proofs.lemmas.Bool.{cases_Bool, cond-true, cond-false}
use Rattle.std.proofs.lemmas.List.Splits.{slice_split-cons_yes, slice_split-cons_no}
use Rattle.dp_line.specs.declared.event.Event.{Event}
use Rattle.dp_line.specs.World.{Description, start_of}
use Rattle.dp_line.specs.Endless.{endless, endless_places}
use Rattle.dp_line.specs.Effects.{effect}
use Rattle.dp_text.specs.Words.{lines_of, same_text}
use Rattle.dp_audit.specs.declared.fault.AuditFault.{AuditFault}
use Rattle.dp_audit.specs.AuditText.{header_text, line_text}
use Rattle.dp_audit.specs.Check.{Judged, bad, not_the_policy, right, checked, checked_lines, going_on, is_accepted_header, judged_line, line_of_header}
use Rattle.dp_audit.proofs.Plain.{header_has_no_lf}
use Rattle.dp_audit.proofs.Texts.{HasFirst, line_first}
use Rattle.dp_audit.proofs.Lines.{good_header}
use Rattle.audit_heads.specs.Head.{Head, place_of_row}
use Rattle.audit_heads.proofs.Plain.{same_itself}
use Rattle.audit_parts.specs.Parts.{PartsView, Taken, and_checked, begun_by, entry_taken, head_after, head_row_taken, parts_checked, row_taken, rows_checked, with_head}
use Rattle.audit_parts.proofs.Heads.{front_taken}

-- ---- rows behind a head

-- a check between two entries, of which no head has begun
abbrev pub between : ℕ → Head → PartsView
between line head = record { line = line; head = head; awaited = [] }

-- no row is the header of a part
abbrev pub NoHead : ℕ → List (List ℕ) → Type 0
NoHead line rows = AllByRecursion (λ (row : List ℕ). place_of_row line row ≡ None) rows

row_is_entry : (line : ℕ) (head : Head) (row : List ℕ) → place_of_row line row ≡ None → row_taken (between line head) row ≡ entry_taken (between line head) (judged_line head.world row)
row_is_entry line head row none =
    cond-false (is_some (place_of_row line row)) (head_row_taken (with_head (between line head)) row) (entry_taken (between line head) (judged_line head.world row)) (ap is_some none)

-- the check behind an entry, and the rows behind it
abbrev behind_entry : ℕ → Head → Event → List (List ℕ) → Result ℕ AuditFault
behind_entry line head event rows = rows_checked (between line (head_after head event)) rows

entry_alike : (line : ℕ) (head : Head) (rows : List (List ℕ)) (judged : Judged)
    → ((event : Event) → behind_entry line head event rows ≡ checked_lines (effect head.world event).world (head.world.count + 1) rows)
    → and_checked (entry_taken (between line head) judged) (λ taken. rows_checked taken.0 rows)
    ≡ going_on judged head.world.count (λ event. checked_lines (effect head.world event).world (head.world.count + 1) rows)
entry_alike line head rows bad more = refl
entry_alike line head rows not_the_policy more = refl
entry_alike line head rows (right event) more = more event

last_alike : {X : Type 0} (is_empty : Bool) (ended wrong : X) → cond (is_empty && true) ended wrong ≡ cond is_empty ended wrong
last_alike true ended wrong = refl
last_alike false ended wrong = refl

pub rows_alike : (line : ℕ) (head : Head) (rows : List (List ℕ)) → NoHead line rows
    → rows_checked (between line head) rows ≡ checked_lines head.world head.world.count rows
unfolding effect
rows_alike line head [] none = refl
rows_alike line head (last ∷ []) none = last_alike (length last == 0) _ _
rows_alike line head (row ∷ next ∷ rows) none =
    ap (λ (t : Result Taken AuditFault). and_checked t (λ taken. rows_checked taken.0 (next ∷ rows))) (row_is_entry line head row none.0)
    ∙ entry_alike line head (next ∷ rows) (judged_line head.world row)
    (λ event. rows_alike line (head_after head event) (next ∷ rows) none.1)

-- ---- a whole text

pub some_line : (text : List ℕ) → HasFirst (lines_of text)
some_line [] = record { first = []; others = []; is = refl }
some_line (octet ∷ text) = elim (cases_Bool (octet == 10)) [
  | inl is ↦ record { first = []; others = lines_of text; is = slice_split-cons_yes (λ o. o == 10) octet text is }
  | inr other ↦
      let has = some_line text in
      record { first = octet ∷ has.first; others = has.others; is = slice_split-cons_no (λ o. o == 10) octet text other ∙ ap (onto_first octet) has.is }
]

second_of_three : (first third : Bool) → ((first || true) || third) ≡ true
second_of_three true third = refl
second_of_three false third = refl

is_accepted : (line : Description) → is_accepted_header line (header_text 3 line.number) ≡ true
is_accepted line = rw (same_itself (header_text 3 line.number)) (second_of_three _ _)

is_endless : (line : Description) → start_of (endless line) ≡ start_of (line_of_header line (header_text 3 line.number))
is_endless line =
    ap (λ (places : ℕ). start_of (record line { capacity = places }))
    (sym (cond-true (same_text (header_text 3 line.number) (header_text 3 line.number)) endless_places line.capacity (same_itself (header_text 3 line.number))))

pub text_alike : (line : Description) (rows : List ℕ) → NoHead line.number (lines_of rows)
    → parts_checked line (line_text (header_text 3 line.number) ++ rows) ≡ checked line (line_text (header_text 3 line.number) ++ rows)
unfolding parts_checked
text_alike line rows none =
    let header = header_text 3 line.number in
    let text = line_text header ++ rows in
    let start = start_of (endless line) in
    let has = some_line rows in
    ap (λ (found : Option (List ℕ)). and_checked (begun_by line text found) (λ begun. rows_checked begun.0 (lines_of begun.1))) (front_taken (line_text header) rows)
    ∙ rows_alike line.number (record { world = start; time = None }) (lines_of rows) none
    ∙ ap (λ (ls : List (List ℕ)). checked_lines start 0 ls) has.is
    ∙ good_header line text header has.first (lines_of rows) has.others start (line_first header rows (header_has_no_lf 3 line.number)) has.is (is_accepted line) (is_endless line)
