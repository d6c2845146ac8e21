-- The rows of a head that is due.
use Rattle.std.proofs.Common.{◌≡◌, ℕ, ◌<◌, true, List, [], ◌∷◌, ◌++◌, length, take, drop, map, Some, None, Result, Ok, refl, sym, ap, ◌∙◌, append_assoc, codes, arith}
use Rattle.std.specs.Prelude.{is_some, nat_lt, option_and_then}
use Rattle.std.specs.List.{flat_map}
use Rattle.std.proofs.lemmas.Bool.{cond-true, lt-ltb}
use Rattle.std.proofs.lemmas.List.{take_at, drop_at}
use Rattle.dp_text.specs.Words.{same_text}
use Rattle.dp_text.proofs.ReadBack.{number_read}
use Rattle.dp_audit.specs.declared.fault.AuditFault.{AuditFault}
use Rattle.audit_heads.specs.FieldWords.{most_32}
use Rattle.audit_heads.specs.Rows.{if_written, rows_text, spaced}
use Rattle.audit_heads.specs.SlaveRows.{slave_rows}
use Rattle.audit_heads.specs.Head.{Head, head_rows, head_text, header_words, place_in, place_of_row, running_words}
use Rattle.audit_heads.proofs.Plain.{IsRow, decimal_plain, is_row, same_itself}
use Rattle.audit_parts.specs.Parts.{PartsView, Taken, and_checked, behind, behind_row, head_row_taken, if_awaited, row_taken, rows_checked, with_head}
use Rattle.audit_parts.proofs.Taking.{rows_more}

-- ---- a text behind its beginning

pub front_taken : (front rest : List ℕ) → behind front (front ++ rest) ≡ Some rest
front_taken front rest =
    let same : same_text (take (length front) (front ++ rest)) front ≡ true =
    ap (λ (t : List ℕ). same_text t front) (take_at front rest (length front) refl) ∙ same_itself front in
    cond-true (same_text (take (length front) (front ++ rest)) front) (Some (drop (length front) (front ++ rest))) None same
    ∙ ap Some (drop_at front rest (length front) refl)

first_behind : (row rest : List ℕ) → behind_row row ((row ++ codes "\n") ++ rest) ≡ Some rest
first_behind row rest =
    ap (behind_row row) (append_assoc row (codes "\n") rest)
    ∙ ap (option_and_then (behind (codes "\n"))) (front_taken row (codes "\n" ++ rest))
    ∙ front_taken (codes "\n") rest

some_left : (row rest : List ℕ) → nat_lt 0 (length ((row ++ codes "\n") ++ rest)) ≡ true
some_left [] rest = lt-ltb 0 (length (codes "\n" ++ rest)) (omega arith)
some_left (octet ∷ row) rest = lt-ltb 0 (length (octet ∷ ((row ++ codes "\n") ++ rest))) (omega arith)

-- ---- rows that are awaited

-- a check that awaits these rows, without their LFs
abbrev awaiting : ℕ → Head → List (List (List ℕ)) → PartsView
awaiting line head rows = record { line = line; head = head; awaited = rows_text rows }

awaited_taken : (line : ℕ) (head : Head) (words : List (List ℕ)) (rows : List (List (List ℕ)))
    → row_taken (awaiting line head (words ∷ rows)) (spaced words) ≡ Ok (awaiting line head rows, None)
awaited_taken line head words rows =
    let view = awaiting line head (words ∷ rows) in
    cond-true (nat_lt 0 (length view.awaited)) (head_row_taken view (spaced words)) _ (some_left (spaced words) (rows_text rows))
    ∙ ap (if_awaited view) (first_behind (spaced words) (rows_text rows))

all_taken : (line : ℕ) (head : Head) (rows : List (List (List ℕ))) (next : List ℕ) (others : List (List ℕ))
    → rows_checked (awaiting line head rows) (map spaced rows ++ next ∷ others) ≡ rows_checked (awaiting line head []) (next ∷ others)
all_taken line head [] next others = refl
all_taken line head (words ∷ []) next others =
    rows_more (awaiting line head (words ∷ [])) (awaiting line head []) (spaced words) next others None (awaited_taken line head words [])
all_taken line head (words ∷ more ∷ rows) next others =
    rows_more (awaiting line head (words ∷ more ∷ rows)) (awaiting line head (more ∷ rows)) (spaced words) (spaced more) (map spaced rows ++ next ∷ others) None
    (awaited_taken line head words (more ∷ rows))
    ∙ all_taken line head (more ∷ rows) next others

-- ---- a whole head

place_back : (number place : ℕ) → number < 256 → place < 4294967296 → place_of_row number (spaced (header_words number place)) ≡ Some place
place_back number place small within =
    let is : IsRow (header_words number place) = is_row (codes "rack-audit") _ (rw (decimal_plain number (omega arith), decimal_plain place (omega arith)) refl) in
    ap (λ (words : List (List ℕ)). if_written (header_words number) (spaced (header_words number place)) (place_in words)) is.back
    ∙ ap (if_written (header_words number) (spaced (header_words number place))) (number_read place most_32 (omega arith) (omega arith))
    ∙ cond-true (same_text (spaced (header_words number place)) (spaced (header_words number place))) (Some place) None (same_itself (spaced (header_words number place)))

-- the header of a part is the first row of the head that is due
due : (view : PartsView) → view.awaited ≡ [] → view.line < 256 → view.head.world.count < 4294967296
    → row_taken view (spaced (header_words view.line view.head.world.count)) ≡ head_row_taken (with_head view) (spaced (header_words view.line view.head.world.count))
due view none small within =
    let row = spaced (header_words view.line view.head.world.count) in
    let found : is_some (place_of_row view.line row) ≡ true = ap is_some (place_back view.line view.head.world.count small within) in
    rw (none, found) refl

begun : (view : PartsView) → view.awaited ≡ [] → view.line < 256 → view.head.world.count < 4294967296
    → row_taken view (spaced (header_words view.line view.head.world.count)) ≡ row_taken (with_head view) (spaced (header_words view.line view.head.world.count))
unfolding head_text
begun view none small within =
    let row = spaced (header_words view.line view.head.world.count) in
    let second = running_words (record { halted = view.head.world.halted; time = view.head.time }) in
    due view none small within
    ∙ sym (cond-true (nat_lt 0 (length (with_head view).awaited)) (head_row_taken (with_head view) row) _
    (some_left row (rows_text (second ∷ flat_map slave_rows view.head.world.slaves))))

pub head_changes_nothing : (view : PartsView) (next : List ℕ) (others : List (List ℕ)) → view.awaited ≡ [] → view.line < 256 → view.head.world.count < 4294967296
    → rows_checked view (map spaced (head_rows view.line view.head) ++ next ∷ others) ≡ rows_checked view (next ∷ others)
unfolding head_text
head_changes_nothing view next others none small within =
    let second = running_words (record { halted = view.head.world.halted; time = view.head.time }) in
    let more = map spaced (flat_map slave_rows view.head.world.slaves) ++ next ∷ others in
    ap (λ (t : Result Taken AuditFault). and_checked t (λ taken. rows_checked taken.0 (spaced second ∷ more))) (begun view none small within)
    ∙ all_taken view.line view.head (head_rows view.line view.head) next others
    ∙ ap (λ (awaited : List ℕ). rows_checked (record { line = view.line; head = view.head; awaited = awaited }) (next ∷ others)) (sym none)
