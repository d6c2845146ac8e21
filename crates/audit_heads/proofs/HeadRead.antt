-- A head is read as it is written, and only so.
use Rattle.std.proofs.Common.{◌≡◌, ℕ, ◌+◌, ◌<◌, ◌==◌, Bool, true, false, List, [], ◌++◌, length, Ok, Err, inl, inr, refl, sym, ap, subst, ◌∙◌, append_assoc, codes, lit<, arith}
use Rattle.std.specs.Prelude.{IfSome}
use Rattle.std.specs.List.{flat_map}
use Rattle.std.proofs.lemmas.Bool.{cases_Bool, cond-true, cond-false, eqb-true}
use Rattle.std.proofs.lemmas.List.{append-nil, nil_from_length}
use Rattle.dp_slave.specs.declared.description.SlaveSpec.{SlaveSpec}
use Rattle.dp_slave.specs.SlaveRecord.{SlaveRecord}
use Rattle.dp_line.specs.World.{Description, ascending}
use Rattle.dp_line.specs.Endless.{endless_places}
use Rattle.dp_text.proofs.ReadBack.{number_read}
use Rattle.audit_heads.specs.declared.running.Running.{Running}
use Rattle.audit_heads.specs.FieldWords.{halted_word, most_32, most_64, none_word}
use Rattle.audit_heads.specs.Rows.{Left, and_then, read_row, row_text, rows_text}
use Rattle.audit_heads.specs.SlaveRows.{slave_rows}
use Rattle.audit_heads.specs.Head.{Head, alone, head_read, head_rows, head_text, head_with, header_words, place_in, place_of_row, running_in, running_of_row, running_words, slaves_read, world_in}
use Rattle.audit_heads.specs.Limits.{IsWithin}
use Rattle.audit_heads.proofs.Plain.{IsRow, all_plain, decimal_plain, is_row}
use Rattle.audit_heads.proofs.RowsRead.{parted, row_is, row_read, some_ok}
use Rattle.audit_heads.proofs.FieldsRead.{halted_read, optional_read}
use Rattle.audit_heads.proofs.SlaveRead.{at_most, optional_plain}
use Rattle.audit_heads.proofs.SlavesRead.{Reading, at, slaves_are, slaves_back}

-- ---- the first two rows

header_row : (number place : ℕ) → number < 256 → place < 4294967296 → IsRow (header_words number place)
header_row number place small within = is_row (codes "rack-audit") _ (rw (decimal_plain number (omega arith), decimal_plain place (omega arith)) refl)

place_back : (number place first : ℕ) (rest : List ℕ) → number < 256 → place < 4294967296
    → read_row (place_of_row number) (at first (row_text (header_words number place) ++ rest)) ≡ Ok (place, at (first + 1) rest)
place_back number place first rest small within =
    row_read (header_words number) place_in place first rest (header_row number place small within) (number_read place most_32 (omega arith) (omega arith))

halted_plain : (halted : Bool) → all_plain (halted_word halted) ≡ true
halted_plain true = refl
halted_plain false = refl

running_row : (running : Running) → IfSome running.time (λ units. units < 18446744073709551616) → IsRow (running_words running)
running_row running within = is_row (codes "line") _ (rw (
  halted_plain running.halted,
  optional_plain none_word 18446744073709551616 running.time refl (omega arith) within,
) refl)

running_back : (running : Running) (first : ℕ) (rest : List ℕ) → IfSome running.time (λ units. units < 18446744073709551616)
    → read_row running_of_row (at first (row_text (running_words running) ++ rest)) ≡ Ok (running, at (first + 1) rest)
running_back running first rest within =
    row_read running_words running_in running first rest (running_row running within) (rw (
      halted_read running.halted,
      optional_read none_word most_64 running.time (lit< tt) (omega arith) (at_most 18446744073709551616 most_64 running.time (omega arith) within),
    ) refl)

-- ---- the head

abbrev with_slaves : Description → ℕ → Running → List SlaveRecord → Left → Reading Head
with_slaves line place running slaves rest = Ok (head_with line place running slaves, rest)

abbrev at_slaves : Description → ℕ → Running → Left → Reading Head
at_slaves line place running left = and_then (slaves_read line.masters (ascending line.slaves) left) (with_slaves line place running)

abbrev at_running : Description → ℕ → Left → Reading Head
at_running line place left = and_then (read_row running_of_row left) (at_slaves line place)

abbrev running_at : Head → Running
running_at head = record { halted = head.world.halted; time = head.time }

abbrev with_stations : Head → List ℕ → ℕ → Head
with_stations head masters capacity = record { world = record head.world { masters = masters; capacity = capacity }; time = head.time }

regroup : (a b c rest : List ℕ) → (a ++ (b ++ c)) ++ rest ≡ a ++ (b ++ (c ++ rest))
regroup a b c rest = simp append_assoc

pub head_back : (line : Description) (head : Head) (rest : List ℕ) → IsWithin line head
    → (number : ℕ) × (head_read line (head_text line.number head ++ rest) ≡ Ok (head, record { number = number; text = rest }))
unfolding head_read head_text
head_back line head rest within =
    let place = head.world.count in
    let running = running_at head in
    let slaves = rows_text (flat_map slave_rows head.world.slaves) in
    let r2 = slaves ++ rest in
    let r1 = row_text (running_words running) ++ r2 in
    let (after, read) = slaves_back line.masters head.world.slaves 3 rest within.slaves in (
      after,
      ap (λ (t : List ℕ). and_then (read_row (place_of_row line.number) (at 1 t)) (at_running line))
          (regroup (row_text (header_words line.number place)) (row_text (running_words running)) slaves rest)
          ∙ ap (λ (r : Reading ℕ). and_then r (at_running line)) (place_back line.number place 1 r1 within.number within.count)
          ∙ ap (λ (r : Reading Running). and_then r (at_slaves line place)) (running_back running 2 r2 within.time)
          ∙ ap (λ (ds : List SlaveSpec). and_then (slaves_read line.masters ds (at 3 r2)) (with_slaves line place running)) (sym within.described)
          ∙ ap (λ (r : Reading (List SlaveRecord)). and_then r (with_slaves line place running)) read
          ∙ ap (λ (masters : List ℕ). Ok (with_stations head masters endless_places, at after rest)) (sym within.masters)
          ∙ ap (λ (capacity : ℕ). Ok (with_stations head head.world.masters capacity, at after rest)) (sym within.capacity),
    )

pub world_back : (line : Description) (head : Head) → IsWithin line head → world_in line (head_text line.number head) ≡ Ok head
unfolding world_in
world_back line head within =
    let (after, read) = head_back line head [] within in
    ap (λ (t : List ℕ). alone (head_read line t)) (sym (append-nil (head_text line.number head))) ∙ ap alone read

pub head_is : (line : Description) (text : List ℕ) (head : Head) (left : Left) → head_read line text ≡ Ok (head, left) → text ≡ head_text line.number head ++ left.text
unfolding head_read head_text
head_is line text head left e =
    let p1 = parted (read_row (place_of_row line.number) (at 1 text)) (at_running line) (head, left) e in
    let p2 = parted (read_row running_of_row p1.left) (at_slaves line p1.value) (head, left) p1.rest_is in
    let p3 = parted (slaves_read line.masters (ascending line.slaves) p2.left) (with_slaves line p1.value p2.value) (head, left) p2.rest_is in
    let is = some_ok {X = Head × Left} (head_with line p1.value p2.value p3.value, p3.left) (head, left) p3.rest_is in
    let w1 = row_is (header_words line.number) place_in (at 1 text) p1.value p1.left p1.first_is in
    let w2 = row_is running_words running_in p1.left p2.value p2.left p2.first_is in
    let w3 = (slaves_are line.masters (ascending line.slaves) p2.left p3.value p3.left p3.first_is).written in
    let t1 = row_text (header_words line.number p1.value) in
    let t2 = row_text (running_words p2.value) in
    let t3 = rows_text (flat_map slave_rows p3.value) in
    subst (λ (p : Head × Left). text ≡ rows_text (head_rows line.number p.0) ++ p.1.text) is
    (w1 ∙ ap (λ (x : List ℕ). t1 ++ x) (w2 ∙ ap (λ (x : List ℕ). t2 ++ x) w3) ∙ sym (regroup t1 t2 t3 p3.left.text))

pub world_is : (line : Description) (text : List ℕ) (head : Head) → world_in line text ≡ Ok head → text ≡ head_text line.number head
unfolding world_in
world_is line text head e = by (head_read line text) refl e
  where
    by : (reading : Reading Head) → head_read line text ≡ reading → alone reading ≡ Ok head → text ≡ head_text line.number head
    by (Err number) read e = absurd cc
    by (Ok found) read e = elim (cases_Bool (length found.1.text == 0)) [
      | inl empty ↦
          let is = some_ok found.0 head (sym (cond-true (length found.1.text == 0) (Ok found.0) (Err found.1.number) empty) ∙ e) in
          head_is line text found.0 found.1 read
          ∙ ap (λ (t : List ℕ). head_text line.number found.0 ++ t) (nil_from_length found.1.text (eqb-true (length found.1.text) 0 empty))
          ∙ append-nil (head_text line.number found.0)
          ∙ ap (head_text line.number) is
      | inr more ↦ absurd (let other = sym (cond-false (length found.1.text == 0) (Ok found.0) (Err found.1.number) more) ∙ e in cc)
    ]
