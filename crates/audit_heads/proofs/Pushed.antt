-- Rows that are appended one after another.
use native.Mathlib.Omega.{arith}
use Rattle.std.proofs.Common.{◌≡◌, ℕ, ◌-◌, ◌≤◌, Bool, List, [], ◌∷◌, ◌++◌, length, drop, take, Option, Result, Ok, Err, OnOk, codes, refl, ap, ◌∙◌, append_assoc}
use Rattle.std.specs.List.{flat_map}
use Rattle.std.proofs.lemmas.List.{take_all}
use lib.ListN.{get_or}
use Rattle.dp_responder.specs.Memory.{MasterMemory}
use Rattle.dp_slave.specs.SlaveRecord.{SlaveRecord}
use Rattle.dp_slave.specs.SlaveParts.{SlaveParts}
use Rattle.dp_line.specs.Stations.{slaves_of}
use Rattle.dp_line.specs.World.{World}
use Rattle.audit_heads.specs.Rows.{row_text, rows_text}
use Rattle.audit_heads.specs.SlaveRows.{data_words, diag_words, inputs_of, memory_rows, outputs_of, prm_words, settings_of, settings_words, slave_rows, hold_state_of, hold_state_words}
use Rattle.audit_heads.specs.Head.{head_rows, head_text, header_words, running_words}

-- one text, and then another one
joined : {T E : Type 0} (r : Result T E) (old mid new a b text : List ℕ) → mid ≡ old ++ a → a ++ b ≡ text → OnOk r (new ≡ mid ++ b) → OnOk r (new ≡ old ++ text)
joined (Ok value) old mid new a b text first is last =
    last ∙ ap (λ (t : List ℕ). t ++ b) first ∙ append_assoc old a b ∙ ap (λ (t : List ℕ). old ++ t) is
joined (Err fault) old mid new a b text first is last = tt

two : (old mid new a b : List ℕ) → mid ≡ old ++ a → new ≡ mid ++ b → new ≡ old ++ (a ++ b)
two old mid new a b first last = last ∙ ap (λ (t : List ℕ). t ++ b) first ∙ append_assoc old a b

regrouped : (a b c d e f m : List ℕ) → ((a ++ (b ++ c)) ++ (d ++ (e ++ f))) ++ m ≡ a ++ (b ++ (c ++ (d ++ (e ++ (f ++ m)))))
regrouped a b c d e f m = simp append_assoc

-- the rows of a slave
abbrev lock_text : SlaveRecord → List ℕ
lock_text slave =
    row_text (hold_state_words slave.description.address (hold_state_of slave))
    ++ (row_text (settings_words slave.description.address (settings_of slave)) ++ row_text (prm_words slave.description.address slave.prm))

abbrev data_text : SlaveRecord → List ℕ
data_text slave =
    row_text (data_words (codes "in") slave.description.address (inputs_of slave))
    ++ (row_text (data_words (codes "out") slave.description.address (outputs_of slave)) ++ row_text (diag_words slave.description.address slave.diag))

pub slave_pushed : {T E : Type 0} (r : Result T E) (o0 o1 o2 o3 : List ℕ) (slave : SlaveRecord) (address : ℕ) (memory : List MasterMemory) → address ≡ slave.description.address → memory ≡ slave.memory
    → o1 ≡ o0 ++ lock_text slave → o2 ≡ o1 ++ data_text slave → OnOk r (o3 ≡ o2 ++ rows_text (memory_rows address memory)) → OnOk r (o3 ≡ o0 ++ rows_text (slave_rows slave))
slave_pushed r o0 o1 o2 o3 slave address memory at same first second last =
    joined r o0 o2 o3 (lock_text slave ++ data_text slave) (rows_text (memory_rows address memory)) (rows_text (slave_rows slave))
    (two o0 o1 o2 (lock_text slave) (data_text slave) first second)
    (ap (λ (a : ℕ). (lock_text slave ++ data_text slave) ++ rows_text (memory_rows a memory)) at
    ∙ ap (λ (m : List MasterMemory). (lock_text slave ++ data_text slave) ++ rows_text (memory_rows slave.description.address m)) same
    ∙ regrouped (row_text (hold_state_words slave.description.address (hold_state_of slave))) (row_text (settings_words slave.description.address (settings_of slave)))
    (row_text (prm_words slave.description.address slave.prm)) (row_text (data_words (codes "in") slave.description.address (inputs_of slave)))
    (row_text (data_words (codes "out") slave.description.address (outputs_of slave))) (row_text (diag_words slave.description.address slave.diag))
    (rows_text (memory_rows slave.description.address slave.memory)))
    last

-- rows of two lists
both_texts : (xs ys : List (List (List ℕ))) → rows_text xs ++ rows_text ys ≡ rows_text (xs ++ ys)
both_texts [] ys = refl
both_texts (x ∷ xs) ys = append_assoc (row_text x) (rows_text xs) (rows_text ys) ∙ ap (λ (t : List ℕ). row_text x ++ t) (both_texts xs ys)

-- the first slave and the others
parts_are : (parts : List SlaveParts) (x : SlaveParts) → 1 ≤ length parts → x ≡ get_or parts 0 x → x ∷ take (length parts - 1) (drop 1 parts) ≡ parts
parts_are [] x some is = absurd (omega (arith, some))
parts_are (y ∷ parts) x some is = ap (λ (p : SlaveParts). p ∷ take (length (y ∷ parts) - 1) parts) is ∙ ap (λ (l : List SlaveParts). y ∷ l) (take_all (length (y ∷ parts) - 1) parts (omega arith))

pub slaves_pushed : {T E : Type 0} (r : Result T E) (o0 o1 o2 : List ℕ) (parts : List SlaveParts) (x : SlaveParts) → 1 ≤ length parts → x ≡ get_or parts 0 x → o1 ≡ o0 ++ rows_text (slave_rows x.slave)
    → OnOk r (o2 ≡ o1 ++ rows_text (flat_map slave_rows (slaves_of (take (length parts - 1) (drop 1 parts))))) → OnOk r (o2 ≡ o0 ++ rows_text (flat_map slave_rows (slaves_of parts)))
slaves_pushed r o0 o1 o2 parts x some is first last =
    let others = take (length parts - 1) (drop 1 parts) in
    joined r o0 o1 o2 (rows_text (slave_rows x.slave)) (rows_text (flat_map slave_rows (slaves_of others))) (rows_text (flat_map slave_rows (slaves_of parts))) first
    (both_texts (slave_rows x.slave) (flat_map slave_rows (slaves_of others))
    ∙ ap (λ (l : List SlaveParts). rows_text (flat_map slave_rows (slaves_of l))) (parts_are parts x some is)) last

pub head_pushed : {T E : Type 0} (r : Result T E) (o0 o1 o2 o3 t1 t2 : List ℕ) (number place : ℕ) (world : World) (halted : Bool) (time : Option ℕ) (slaves : List SlaveRecord)
    → t1 ≡ row_text (header_words number place) → t2 ≡ row_text (running_words (record { halted = halted; time = time })) → place ≡ world.count → halted ≡ world.halted → slaves ≡ world.slaves
    → o1 ≡ o0 ++ t1 → o2 ≡ o1 ++ t2 → OnOk r (o3 ≡ o2 ++ rows_text (flat_map slave_rows slaves)) → OnOk r (o3 ≡ o0 ++ head_text number (record { world = world; time = time }))
unfolding head_text
head_pushed r o0 o1 o2 o3 t1 t2 number place world halted time slaves one other counted is_halted same first second last =
    joined r o0 o2 o3 (t1 ++ t2) (rows_text (flat_map slave_rows slaves)) (rows_text (head_rows number (record { world = world; time = time })))
    (two o0 o1 o2 t1 t2 first second)
    (append_assoc t1 t2 (rows_text (flat_map slave_rows slaves))
    ∙ ap (λ (t : List ℕ). t ++ (t2 ++ rows_text (flat_map slave_rows slaves))) (one ∙ ap (λ (p : ℕ). row_text (header_words number p)) counted)
    ∙ ap (λ (t : List ℕ). row_text (header_words number world.count) ++ (t ++ rows_text (flat_map slave_rows slaves))) (other ∙ ap (λ (h : Bool). row_text (running_words (record { halted = h; time = time }))) is_halted)
    ∙ ap (λ (l : List SlaveRecord). row_text (header_words number world.count) ++ (row_text (running_words (record { halted = world.halted; time = time })) ++ rows_text (flat_map slave_rows l))) same)
    last
