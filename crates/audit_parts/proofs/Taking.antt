-- Rows that a check takes.
use Rattle.std.proofs.Common.{◌≡◌, ◌≢◌, ℕ, ◌+◌, ◌≤◌, Bool, true, false, cond, List, [], ◌∷◌, length, take, drop, Option, Some, None, Result, Ok, Err, refl, sym, ap, ◌∙◌, ◌*◌, not, arith}
use Rattle.std.specs.Prelude.{codes, is_some, nat_lt, option_and_then}
use Rattle.std.specs.List.{count_by}
use Rattle.std.proofs.lemmas.List.{drop-drop, length-drop}
use Rattle.std.proofs.lemmas.List.Sums.{length-filter}
use Rattle.std.proofs.lemmas.List.Filters.{length-filter_both}
use Rattle.std.proofs.lemmas.Nat.{mul-le}
use Rattle.dp_line.specs.World.{World}
use Rattle.dp_line.specs.declared.event.Event.{Event}
use Rattle.dp_line.specs.declared.event.Step.{Step}
use Rattle.dp_text.specs.Words.{same_text}
use Rattle.dp_audit.specs.declared.fault.AuditFault.{AuditFault}
use Rattle.dp_audit.specs.declared.fault.AuditFault.TheVariants as faults
use Rattle.dp_audit.specs.Check.{Judged, bad, judged_line, not_the_policy, right}
use Rattle.dp_audit.specs.Checking.{TakesRow}
use Rattle.dp_audit.specs.Times.{time_after}
use Rattle.audit_heads.specs.Head.{place_of_row}
use Rattle.std.proofs.lemmas.Option.{same_Some}
use Rattle.audit_parts.specs.Parts.{PartsView, Taken, and_checked, behind, behind_row, entry_taken, head_row_taken, head_taken, if_awaited, row_taken, rows_checked, with_head}

-- ---- a row at the beginning of a text

found_by : (b : Bool) (rest : List ℕ) → is_some (cond b (Some rest) None) ≡ true → b ≡ true
found_by true rest e = refl
found_by false rest e = absurd cc

one_more : (text : List ℕ) → same_text (take 1 text) (codes "\n") ≡ true → 1 ≤ length text
one_more [] e = absurd cc
one_more (octet ∷ octets) e = omega arith

row_found_by : (row text : List ℕ) (begins : Bool) → same_text (take (length row) text) row ≡ begins → is_some (behind_row row text) ≡ true
    → (behind_row row text ≡ Some (drop (length row + 1) text)) × (length row + 1 ≤ length text)
row_found_by row text true begins found =
    let first : behind row text ≡ Some (drop (length row) text) = rw begins refl in
    let second : behind_row row text ≡ behind (codes "\n") (drop (length row) text) = ap (option_and_then (behind (codes "\n"))) first in
    let lf : same_text (take 1 (drop (length row) text)) (codes "\n") ≡ true = found_by _ (drop 1 (drop (length row) text)) (ap is_some (sym second) ∙ found) in
    let third : behind (codes "\n") (drop (length row) text) ≡ Some (drop 1 (drop (length row) text)) = rw lf refl in
    let more = one_more (drop (length row) text) lf in
    let long = length-drop (length row) text in
    (second ∙ third ∙ ap Some (drop-drop 1 (length row) text), omega (arith, more, long))
row_found_by row text false begins found =
    let first : behind row text ≡ None = rw begins refl in
    absurd cc

-- what is left of a text behind a row with which it begins
pub row_found : (row text : List ℕ) → is_some (behind_row row text) ≡ true
    → (behind_row row text ≡ Some (drop (length row + 1) text)) × (length row + 1 ≤ length text)
row_found row text found = row_found_by row text (same_text (take (length row) text) row) refl found

-- a row of a head, of whose text these many octets have come
pub head_row_ok : (view : PartsView) (row head : List ℕ) (come : ℕ) → view.awaited ≡ drop come head → is_some (behind_row row (drop come head)) ≡ true
    → head_row_taken view row ≡ Ok (record { line = view.line; head = view.head; awaited = drop (come + (length row + 1)) head }, None)
head_row_ok view row head come is found =
    ap (λ (text : List ℕ). if_awaited view (behind_row row text)) is
    ∙ ap (if_awaited view) ((row_found row (drop come head) found).0 ∙ ap Some (drop-drop (length row + 1) come head))

-- ---- the row of an entry

abbrev takes : Event → Result Event AuditFault
takes event = Ok event

same_event : {a b : Event} → takes a ≡ takes b → a ≡ b
same_event e = cc

-- the check behind an entry, and its event
abbrev behind_entry : PartsView → World → Event → Event → Result Taken AuditFault
behind_entry view after event shown = Ok (record view { head = record { world = after; time = time_after view.head.time event } }, Some shown)

pub entry_right : (judged : Judged) (view : PartsView) (after : World) (answer : Step) (event : Event) → TakesRow judged view.head.world after answer (Ok event)
    → entry_taken view judged ≡ Ok (record view { head = record { world = after; time = time_after view.head.time event } }, Some event)
entry_right bad view after answer event never = absurd cc
entry_right not_the_policy view after answer event never = absurd cc
entry_right (right other) view after answer event (same, is, stepped, answered) =
    ap (λ (w : World). behind_entry view w other other) (sym is) ∙ ap (λ (e : Event). behind_entry view after e e) (sym (same_event same))

pub entry_wrong : (judged : Judged) (view : PartsView) (after : World) (answer : Step) (fault : AuditFault) → TakesRow judged view.head.world after answer (Err fault)
    → entry_taken view judged ≡ Err fault
entry_wrong bad view after answer fault is = cc
entry_wrong not_the_policy view after answer fault is = cc
entry_wrong (right other) view after answer fault (never, is, stepped, answered) = absurd cc

-- ---- a row of a head, or of an entry

of_head_by : (view : PartsView) (row : List ℕ) (begun header : Bool) (taken entry : Result Taken AuditFault)
    → cond begun (Some (head_row_taken view row)) (cond header (Some (head_row_taken (with_head view) row)) None) ≡ Some taken
    → cond begun (head_row_taken view row) (cond header (head_row_taken (with_head view) row) entry) ≡ taken
of_head_by view row true header taken entry is = same_Some _ _ is
of_head_by view row false true taken entry is = same_Some _ _ is
of_head_by view row false false taken entry is = absurd cc

of_entry_by : (view : PartsView) (row : List ℕ) (begun header : Bool) (entry : Result Taken AuditFault)
    → cond begun (Some (head_row_taken view row)) (cond header (Some (head_row_taken (with_head view) row)) None) ≡ None
    → cond begun (head_row_taken view row) (cond header (head_row_taken (with_head view) row) entry) ≡ entry
of_entry_by view row true header entry is = absurd cc
of_entry_by view row false true entry is = absurd cc
of_entry_by view row false false entry is = refl

-- a row of a head is taken so
pub of_head : (view : PartsView) (row : List ℕ) (taken : Result Taken AuditFault) → head_taken view row ≡ Some taken → row_taken view row ≡ taken
of_head view row taken is =
    of_head_by view row (nat_lt 0 (length view.awaited)) (is_some (place_of_row view.line row)) taken (entry_taken view (judged_line view.head.world row)) is

-- any other one is that of an entry
pub of_entry : (view : PartsView) (row : List ℕ) → head_taken view row ≡ None → row_taken view row ≡ entry_taken view (judged_line view.head.world row)
of_entry view row is =
    of_entry_by view row (nat_lt 0 (length view.awaited)) (is_some (place_of_row view.line row)) (entry_taken view (judged_line view.head.world row)) is

-- ---- memory is refused at the header of a part only

if_awaited_keeps : (view : PartsView) (found : Option (List ℕ)) → if_awaited view found ≢ Err faults.OutOfMemory
if_awaited_keeps view None = λ e. absurd cc
if_awaited_keeps view (Some rest) = λ e. absurd cc

pub head_row_keeps : (view : PartsView) (row : List ℕ) → head_row_taken view row ≢ Err faults.OutOfMemory
head_row_keeps view row = if_awaited_keeps view (behind_row row view.awaited)

pub entry_keeps : (view : PartsView) (judged : Judged) → entry_taken view judged ≢ Err faults.OutOfMemory
entry_keeps view bad = λ e. absurd cc
entry_keeps view not_the_policy = λ e. absurd cc
entry_keeps view (right event) = λ e. absurd cc

-- ---- rows

pub rows_more : (view after : PartsView) (row next : List ℕ) (rows : List (List ℕ)) (event : Option Event) → row_taken view row ≡ Ok (after, event)
    → rows_checked view (row ∷ next ∷ rows) ≡ rows_checked after (next ∷ rows)
rows_more view after row next rows event taken = ap (λ (t : Result Taken AuditFault). and_checked t (λ behind. rows_checked behind.0 (next ∷ rows))) taken

pub rows_wrong : (view : PartsView) (row next : List ℕ) (rows : List (List ℕ)) (fault : AuditFault) → row_taken view row ≡ Err fault
    → rows_checked view (row ∷ next ∷ rows) ≡ Err fault
rows_wrong view row next rows fault refused = ap (λ (t : Result Taken AuditFault). and_checked t (λ behind. rows_checked behind.0 (next ∷ rows))) refused

-- ---- the row of a slave

-- as many of some things are not more than all
pub counted_most : {X : Type 0} (p : X → Bool) (xs : List X) → count_by p xs ≤ length xs
counted_most p xs =
    let counted = length-filter p xs in
    let both = length-filter_both p (λ x. not (p x)) (λ x. refl) xs in
    omega (arith, counted, both)

-- the rows of 64 slaves with 16 masters
pub rows_fit : (slaves rows : ℕ) → slaves ≤ 64 → rows ≤ 22 → slaves * rows ≤ 1408
rows_fit slaves rows few short = mul-le slaves rows 64 22 few short
