-- The rows of a slave are read in groups.
use Rattle.std.proofs.Common.{◌≡◌, ℕ, codes, Bool, true, false, cond, List, [], Option, Some, None, Result, Ok, Err, refl, sym, ap, ◌∙◌}
use Rattle.dp_responder.specs.Memory.{MasterMemory}
use Rattle.dp_slave.specs.declared.description.SlaveSpec.{SlaveSpec}
use Rattle.dp_slave.specs.declared.image.SlaveImage.{SlaveImage}
use Rattle.dp_slave.specs.Images.{has_lengths, restored_slave, slave_of_image, slave_with}
use Rattle.dp_slave.specs.SlaveRecord.{SlaveRecord}
use Rattle.dp_slave.specs.SlaveParts.{SlaveParts}
use Rattle.audit_heads.specs.declared.head_reading.LockRows.{LockRows}
use Rattle.audit_heads.specs.declared.head_reading.DataRows.{DataRows}
use Rattle.audit_heads.specs.Rows.{Left, and_then, read_row}
use Rattle.audit_heads.specs.SlaveRows.{data_of_row, diag_of_row, if_long, memory_read, prm_of_row, settings_of_row, slave_read, hold_state_of_row}
use Rattle.audit_heads.specs.Reading.{behind, data_read, lock_read, read_as}
use Rattle.audit_heads.proofs.SlavesRead.{Reading}

assoc : {A B C : Type 0} (r : Reading A) (f : A → Left → Reading B) (g : B → Left → Reading C) → and_then (and_then r f) g ≡ and_then r (λ x l. and_then (f x l) g)
assoc (Err number) f g = refl
assoc (Ok read) f g = refl

same : {A B : Type 0} (r : Reading A) (f g : A → Left → Reading B) → ((x : A) (l : Left) → f x l ≡ g x l) → and_then r f ≡ and_then r g
same (Err number) f g each = refl
same (Ok read) f g each = each read.0 read.1

-- what comes behind the six rows
abbrev pub with_rows : ℕ → SlaveSpec → LockRows → DataRows → List MasterMemory → Left → Reading SlaveRecord
with_rows number d f g memory rest = if_long number (slave_with d f.hold_state f.settings f.prm g.inputs g.outputs g.diag memory) rest

abbrev pub at_memory : ℕ → List ℕ → SlaveSpec → LockRows → DataRows → Left → Reading SlaveRecord
at_memory number masters d f g left = and_then (memory_read d.address masters left) (with_rows number d f g)

abbrev pub at_data : ℕ → List ℕ → SlaveSpec → LockRows → Left → Reading SlaveRecord
at_data number masters d f left = and_then (data_read d.address left) (at_memory number masters d f)

lock_grouped : {C : Type 0} (address : ℕ) (left : Left) (g : LockRows → Left → Reading C) → and_then (lock_read address left) g
    ≡ and_then (read_row (hold_state_of_row address) left) (λ s l1. and_then (read_row (settings_of_row address) l1) (λ t l2. and_then (read_row (prm_of_row address) l2)
    (λ p l3. g (record { hold_state = s; settings = t; prm = p }) l3)))
lock_grouped address left g =
    assoc (read_row (hold_state_of_row address) left) _ g
    ∙ same (read_row (hold_state_of_row address) left) _ _ (λ s l1. assoc (read_row (settings_of_row address) l1) _ g
    ∙ same (read_row (settings_of_row address) l1) _ _ (λ t l2. assoc (read_row (prm_of_row address) l2) _ g))

data_grouped : {C : Type 0} (address : ℕ) (left : Left) (g : DataRows → Left → Reading C) → and_then (data_read address left) g
    ≡ and_then (read_row (data_of_row (codes "in") address) left) (λ i l1. and_then (read_row (data_of_row (codes "out") address) l1) (λ o l2. and_then (read_row (diag_of_row address) l2)
    (λ d l3. g (record { inputs = i; outputs = o; diag = d }) l3)))
data_grouped address left g =
    assoc (read_row (data_of_row (codes "in") address) left) _ g
    ∙ same (read_row (data_of_row (codes "in") address) left) _ _ (λ i l1. assoc (read_row (data_of_row (codes "out") address) l1) _ g
    ∙ same (read_row (data_of_row (codes "out") address) l1) _ _ (λ o l2. assoc (read_row (diag_of_row address) l2) _ g))

pub grouped : (masters : List ℕ) (d : SlaveSpec) (left : Left) → slave_read masters d left ≡ and_then (lock_read d.address left) (at_data left.number masters d)
grouped masters d left =
    sym (lock_grouped d.address left (at_data left.number masters d)
    ∙ same (read_row (hold_state_of_row d.address) left) _ _ (λ s l1. same (read_row (settings_of_row d.address) l1) _ _ (λ t l2. same (read_row (prm_of_row d.address) l2) _ _
    (λ p l3. data_grouped d.address l3 (at_memory left.number masters d (record { hold_state = s; settings = t; prm = p }))))))

-- what was read, and what is left
got : {A : Type 0} (r : Result A ℕ) (value : A) (after : Left) (reading : Reading A) → read_as r after ≡ reading → r ≡ Ok value → reading ≡ Ok (value, after)
got r value after reading is was = sym is ∙ ap (λ x. read_as x after) was

failed : {A : Type 0} (r : Result A ℕ) (number : ℕ) (after : Left) (reading : Reading A) → read_as r after ≡ reading → r ≡ Err number → reading ≡ Err number
failed r number after reading is was = sym is ∙ ap (λ x. read_as x after) was

pub after_lock : (masters : List ℕ) (d : SlaveSpec) (left l1 : Left) (lock : Result LockRows ℕ) (f : LockRows) → read_as lock l1 ≡ lock_read d.address left → lock ≡ Ok f
    → slave_read masters d left ≡ at_data left.number masters d f l1
after_lock masters d left l1 lock f is was = grouped masters d left ∙ ap (λ (r : Reading LockRows). and_then r (at_data left.number masters d)) (got lock f l1 (lock_read d.address left) is was)

pub after_data : (masters : List ℕ) (d : SlaveSpec) (left l1 l2 : Left) (lock : Result LockRows ℕ) (f : LockRows) (rows : Result DataRows ℕ) (g : DataRows)
    → read_as lock l1 ≡ lock_read d.address left → lock ≡ Ok f → read_as rows l2 ≡ data_read d.address l1 → rows ≡ Ok g
    → slave_read masters d left ≡ at_memory left.number masters d f g l2
after_data masters d left l1 l2 lock f rows g is was reads got_it =
    after_lock masters d left l1 lock f is was ∙ ap (λ (r : Reading DataRows). and_then r (at_memory left.number masters d f)) (got rows g l2 (data_read d.address l1) reads got_it)

pub failed_data : (masters : List ℕ) (d : SlaveSpec) (left l1 l2 : Left) (lock : Result LockRows ℕ) (f : LockRows) (rows : Result DataRows ℕ) (number : ℕ)
    → read_as lock l1 ≡ lock_read d.address left → lock ≡ Ok f → read_as rows l2 ≡ data_read d.address l1 → rows ≡ Err number → Err number ≡ slave_read masters d left
failed_data masters d left l1 l2 lock f rows number is was reads fails =
    sym (after_lock masters d left l1 lock f is was ∙ ap (λ (r : Reading DataRows). and_then r (at_memory left.number masters d f)) (failed rows number l2 (data_read d.address l1) reads fails))

behind_none : (r : Reading (List MasterMemory)) → behind [] r ≡ r
behind_none (Err number) = refl
behind_none (Ok read) = refl

memory_of : (before : List MasterMemory) (r reading : Reading (List MasterMemory)) → before ≡ [] → r ≡ behind before reading → r ≡ reading
memory_of before r reading empty is = is ∙ ap (λ (m : List MasterMemory). behind m reading) empty ∙ behind_none reading

pub failed_memory : (masters : List ℕ) (d : SlaveSpec) (left l2 l3 : Left) (f : LockRows) (g : DataRows) (before : List MasterMemory) (memory : Result (List MasterMemory) ℕ) (number : ℕ)
    → slave_read masters d left ≡ at_memory left.number masters d f g l2 → before ≡ [] → read_as memory l3 ≡ behind before (memory_read d.address masters l2) → memory ≡ Err number → Err number ≡ slave_read masters d left
failed_memory masters d left l2 l3 f g before memory number so_far empty is fails =
    sym (so_far ∙ ap (λ (r : Reading (List MasterMemory)). and_then r (with_rows left.number d f g))
    (failed memory number l3 (memory_read d.address masters l2) (memory_of before (read_as memory l3) (memory_read d.address masters l2) empty is) fails))

pub after_memory : (masters : List ℕ) (d : SlaveSpec) (left l2 l3 : Left) (f : LockRows) (g : DataRows) (before : List MasterMemory) (memory : Result (List MasterMemory) ℕ) (entries : List MasterMemory)
    → slave_read masters d left ≡ at_memory left.number masters d f g l2 → before ≡ [] → read_as memory l3 ≡ behind before (memory_read d.address masters l2) → memory ≡ Ok entries
    → slave_read masters d left ≡ with_rows left.number d f g entries l3
after_memory masters d left l2 l3 f g before memory entries so_far empty is was =
    so_far ∙ ap (λ (r : Reading (List MasterMemory)). and_then r (with_rows left.number d f g))
    (got memory entries l3 (memory_read d.address masters l2) (memory_of before (read_as memory l3) (memory_read d.address masters l2) empty is) was)

some_by : (b : Bool) (x found : SlaveParts) (rest : Left) (number : ℕ) → cond {A = Option SlaveParts} b (Some x) None ≡ Some found → ◌≡◌ {A = Reading SlaveRecord} (Ok (found.slave, rest)) (cond b (Ok (x.slave, rest)) (Err number))
some_by true x found rest number e = let one : x ≡ found = cc in ap (λ (p : SlaveParts). Ok (p.slave, rest)) (sym one)
some_by false x found rest number e = absurd cc

none_by : (b : Bool) (x : SlaveParts) (rest : Left) (number : ℕ) → cond {A = Option SlaveParts} b (Some x) None ≡ None → ◌≡◌ {A = Reading SlaveRecord} (Err number) (cond b (Ok (x.slave, rest)) (Err number))
none_by true x rest number e = absurd cc
none_by false x rest number e = refl

pub restored : (masters : List ℕ) (d : SlaveSpec) (left l3 : Left) (image : SlaveImage) (made : Option SlaveParts) (found : SlaveParts)
    → slave_read masters d left ≡ if_long left.number (slave_of_image d image) l3 → made ≡ restored_slave d image → made ≡ Some found
    → ◌≡◌ {A = Reading SlaveRecord} (Ok (found.slave, l3)) (slave_read masters d left)
restored masters d left l3 image made found so_far is was =
    some_by (has_lengths d image) _ found l3 left.number (sym is ∙ was) ∙ sym so_far

pub not_restored : (masters : List ℕ) (d : SlaveSpec) (left l3 : Left) (image : SlaveImage) (made : Option SlaveParts) (number : ℕ)
    → slave_read masters d left ≡ if_long left.number (slave_of_image d image) l3 → made ≡ restored_slave d image → made ≡ None → number ≡ left.number
    → ◌≡◌ {A = Reading SlaveRecord} (Err number) (slave_read masters d left)
not_restored masters d left l3 image made number so_far is was same =
    ap (λ (n : ℕ). Err n) same ∙ none_by (has_lengths d image) _ l3 left.number (sym is ∙ was) ∙ sym so_far
