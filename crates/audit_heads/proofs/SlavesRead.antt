-- All rows of a slave, and of slaves one after another: read as they are written, and only so.
use Rattle.std.proofs.Common.{◌≡◌, ℕ, ◌+◌, Bool, true, false, cond, List, [], ◌∷◌, ◌++◌, map, Option, Result, Ok, Err, refl, sym, ap, subst, ◌∙◌, append_assoc, codes}
use Rattle.std.specs.List.{AllByRecursion, flat_map}
use Rattle.dp_responder.specs.Memory.{MasterMemory, Remembered}
use Rattle.dp_prm.specs.declared.prm.Prm.{Prm}
use Rattle.dp_diag.specs.declared.diag.Diag.{Diag}
use Rattle.dp_slave.specs.declared.description.SlaveSpec.{SlaveSpec}
use Rattle.dp_slave.specs.SlaveRecord.{SlaveRecord}
use Rattle.dp_slave.specs.declared.image.HoldState.{HoldState}
use Rattle.dp_slave.specs.declared.image.Settings.{Settings}
use Rattle.dp_slave.specs.declared.image.DataPair.{DataPair}
use Rattle.audit_heads.specs.Rows.{Left, and_then, read_row, row_text, rows_text}
use Rattle.dp_slave.specs.Images.{slave_with}
use Rattle.audit_heads.specs.SlaveRows.{data_in, data_of_row, data_words, diag_in, diag_of_row, diag_words, if_long, inputs_of, last_in, last_of_row, last_words, memory_read, memory_rows, outputs_of, prm_in, prm_of_row, prm_words, settings_in, settings_of, settings_of_row, settings_words, slave_read, slave_rows, hold_state_in, hold_state_of, hold_state_of_row, hold_state_words}
use Rattle.audit_heads.specs.Head.{slaves_read}
use Rattle.audit_heads.specs.Limits.{IsMemoryWithin, IsOctet, IsSlaveWithin}
use Rattle.audit_heads.proofs.RowsRead.{parted, row_is, some_ok}
use Rattle.audit_heads.proofs.SlaveRead.{data_back, diag_back, last_back, prm_back, settings_back, hold_state_back}

abbrev pub Reading : Type 0 → Type 0
Reading A = Result (A × Left) ℕ

abbrev pub at : ℕ → List ℕ → Left
at number text = record { number = number; text = text }

-- it is read with nothing but this rest left
abbrev pub IsReadWith : {A : Type 0} → Reading A → A → List ℕ → Type 0
IsReadWith reading value rest = (number : ℕ) × (reading ≡ Ok (value, at number rest))

-- ---- what is remembered

abbrev with_last : ℕ → Option Remembered → List MasterMemory → Left → Reading (List MasterMemory)
with_last master last others rest = Ok ((record { master = master; last = last }) ∷ others, rest)

abbrev at_others : ℕ → ℕ → List ℕ → Option Remembered → Left → Reading (List MasterMemory)
at_others address master masters last behind = and_then (memory_read address masters behind) (with_last master last)

memory_back : (address : ℕ) (memory : List MasterMemory) (number : ℕ) (rest : List ℕ) → IsOctet address → AllByRecursion IsMemoryWithin memory
    → IsReadWith (memory_read address (map (λ m. m.master) memory) (at number (rows_text (memory_rows address memory) ++ rest))) memory rest
memory_back address [] number rest small within = (number, refl)
memory_back address (m ∷ memory) number rest small within =
    let (after, others) = memory_back address memory (number + 1) rest small within.1 in
    let row = row_text (last_words address m.master m.last) in
    let masters = map (λ (x : MasterMemory). x.master) memory in (
      after,
      ap (λ (t : List ℕ). and_then (read_row (last_of_row address m.master) (at number t)) (at_others address m.master masters))
          (append_assoc row (rows_text (memory_rows address memory)) rest)
          ∙ ap (λ (r : Reading (Option Remembered)). and_then r (at_others address m.master masters))
          (last_back address m.master m.last number (rows_text (memory_rows address memory) ++ rest) small within.0.master within.0.reply)
          ∙ ap (λ (r : Reading (List MasterMemory)). and_then r (with_last m.master m.last)) others,
    )

-- what is read has these rows, and is of these masters
pub record IsMemoryOf (address : ℕ) (masters : List ℕ) (text : List ℕ) (memory : List MasterMemory) (rest : List ℕ) : Type 0 where
  pub written : text ≡ rows_text (memory_rows address memory) ++ rest
  pub masters_are : map (λ m. m.master) memory ≡ masters

memory_is : (address : ℕ) (masters : List ℕ) (left : Left) (memory : List MasterMemory) (after : Left)
    → memory_read address masters left ≡ Ok (memory, after) → IsMemoryOf address masters left.text memory after.text
memory_is address [] left memory after e =
    let is = some_ok {X = List MasterMemory × Left} ([], left) (memory, after) e in
    subst (λ (p : List MasterMemory × Left). IsMemoryOf address [] left.text p.0 p.1.text) is (record { written = refl; masters_are = refl })
memory_is address (master ∷ masters) left memory after e =
    let first = parted (read_row (last_of_row address master) left) (at_others address master masters) (memory, after) e in
    let second = parted (memory_read address masters first.left) (with_last master first.value) (memory, after) first.rest_is in
    let is = some_ok {X = List MasterMemory × Left} ((record { master = master; last = first.value }) ∷ second.value, second.left) (memory, after) second.rest_is in
    let here = row_is (last_words address master) last_in left first.value first.left first.first_is in
    let others = memory_is address masters first.left second.value second.left second.first_is in
    let row = row_text (last_words address master first.value) in
    subst (λ (p : List MasterMemory × Left). IsMemoryOf address (master ∷ masters) left.text p.0 p.1.text) is (record {
      written =
          here ∙ ap (λ (t : List ℕ). row ++ t) others.written
          ∙ sym (append_assoc row (rows_text (memory_rows address second.value)) second.left.text);
      masters_are = ap (λ (ms : List ℕ). master ∷ ms) others.masters_are;
    })

-- ---- a slave

-- `n` is the number of the first row of the slave
abbrev with_memory : ℕ → SlaveSpec → HoldState → Settings → Option Prm → DataPair → DataPair → Diag → List MasterMemory → Left → Reading SlaveRecord
with_memory n d s t p i o g memory rest = if_long n (slave_with d s t p i o g memory) rest

abbrev at_memory : ℕ → List ℕ → SlaveSpec → HoldState → Settings → Option Prm → DataPair → DataPair → Diag → Left → Reading SlaveRecord
at_memory n masters d s t p i o g left = and_then (memory_read d.address masters left) (with_memory n d s t p i o g)

abbrev at_diag : ℕ → List ℕ → SlaveSpec → HoldState → Settings → Option Prm → DataPair → DataPair → Left → Reading SlaveRecord
at_diag n masters d s t p i o left = and_then (read_row (diag_of_row d.address) left) (at_memory n masters d s t p i o)

abbrev at_outputs : ℕ → List ℕ → SlaveSpec → HoldState → Settings → Option Prm → DataPair → Left → Reading SlaveRecord
at_outputs n masters d s t p i left = and_then (read_row (data_of_row (codes "out") d.address) left) (at_diag n masters d s t p i)

abbrev at_inputs : ℕ → List ℕ → SlaveSpec → HoldState → Settings → Option Prm → Left → Reading SlaveRecord
at_inputs n masters d s t p left = and_then (read_row (data_of_row (codes "in") d.address) left) (at_outputs n masters d s t p)

abbrev at_prm : ℕ → List ℕ → SlaveSpec → HoldState → Settings → Left → Reading SlaveRecord
at_prm n masters d s t left = and_then (read_row (prm_of_row d.address) left) (at_inputs n masters d s t)

abbrev at_settings : ℕ → List ℕ → SlaveSpec → HoldState → Left → Reading SlaveRecord
at_settings n masters d s left = and_then (read_row (settings_of_row d.address) left) (at_prm n masters d s)

-- a slave that is read has the lengths of its shape
long_by : (number : ℕ) (slave : SlaveRecord) (rest : Left) (found : SlaveRecord × Left) (b : Bool) → cond {A = Reading SlaveRecord} b (Ok (slave, rest)) (Err number) ≡ Ok found
    → ◌≡◌ {A = Reading SlaveRecord} (Ok (slave, rest)) (Ok found)
long_by number slave rest found true e = e
long_by number slave rest found false e = absurd cc

-- seven texts and a rest, one after another
regroup : (a b c d e f g rest : List ℕ)
    → (a ++ (b ++ (c ++ (d ++ (e ++ (f ++ g)))))) ++ rest ≡ a ++ (b ++ (c ++ (d ++ (e ++ (f ++ (g ++ rest))))))
regroup a b c d e f g rest = simp append_assoc

-- each text begins with the next piece, and ends in the next text
chained : (a b c d e f g rest x0 x1 x2 x3 x4 x5 x6 : List ℕ)
    → x0 ≡ a ++ x1 → x1 ≡ b ++ x2 → x2 ≡ c ++ x3 → x3 ≡ d ++ x4 → x4 ≡ e ++ x5 → x5 ≡ f ++ x6 → x6 ≡ g ++ rest
    → x0 ≡ (a ++ (b ++ (c ++ (d ++ (e ++ (f ++ g)))))) ++ rest
chained a b c d e f g rest x0 x1 x2 x3 x4 x5 x6 w1 w2 w3 w4 w5 w6 w7 = rw (w1, w2, w3, w4, w5, w6, w7) (sym (regroup a b c d e f g rest))

pub slave_back : (masters : List ℕ) (slave : SlaveRecord) (number : ℕ) (rest : List ℕ) → IsSlaveWithin masters slave
    → IsReadWith (slave_read masters slave.description (at number (rows_text (slave_rows slave) ++ rest))) slave rest
slave_back masters slave number rest within =
    let d = slave.description in
    let a = slave.description.address in
    let s = hold_state_of slave in
    let t = settings_of slave in
    let i = inputs_of slave in
    let o = outputs_of slave in
    let m = rows_text (memory_rows a slave.memory) in
    let r6 = m ++ rest in
    let r5 = row_text (diag_words a slave.diag) ++ r6 in
    let r4 = row_text (data_words (codes "out") a o) ++ r5 in
    let r3 = row_text (data_words (codes "in") a i) ++ r4 in
    let r2 = row_text (prm_words a slave.prm) ++ r3 in
    let r1 = row_text (settings_words a t) ++ r2 in
    let (after, memory) = memory_back a slave.memory (number + 1 + 1 + 1 + 1 + 1 + 1) rest within.address within.memory in (
      after,
      ap (λ (x : List ℕ). slave_read masters d (at number x))
          (regroup (row_text (hold_state_words a s)) (row_text (settings_words a t)) (row_text (prm_words a slave.prm)) (row_text (data_words (codes "in") a i))
          (row_text (data_words (codes "out") a o)) (row_text (diag_words a slave.diag)) m rest)
          ∙ ap (λ (r : Reading HoldState). and_then r (at_settings number masters d)) (hold_state_back masters slave number r1 within)
          ∙ ap (λ (r : Reading Settings). and_then r (at_prm number masters d s)) (settings_back masters slave (number + 1) r2 within)
          ∙ ap (λ (r : Reading (Option Prm)). and_then r (at_inputs number masters d s t)) (prm_back a slave.prm (number + 1 + 1) r3 within.address within.prm)
          ∙ ap (λ (r : Reading DataPair). and_then r (at_outputs number masters d s t slave.prm)) (data_back 105 (codes "n") a i (number + 1 + 1 + 1) r4 refl within.address within.inputs within.frozen_inputs)
          ∙ ap (λ (r : Reading DataPair). and_then r (at_diag number masters d s t slave.prm i)) (data_back 111 (codes "ut") a o (number + 1 + 1 + 1 + 1) r5 refl within.address within.outputs within.latest)
          ∙ ap (λ (r : Reading Diag). and_then r (at_memory number masters d s t slave.prm i o)) (diag_back a slave.diag (number + 1 + 1 + 1 + 1 + 1) r6 within.address within.diagnosis)
          ∙ ap (λ (ms : List ℕ). and_then (memory_read a ms (at (number + 1 + 1 + 1 + 1 + 1 + 1) r6)) (with_memory number d s t slave.prm i o slave.diag)) (sym within.remembers)
          ∙ ap (λ (r : Reading (List MasterMemory)). and_then r (with_memory number d s t slave.prm i o slave.diag)) memory
          ∙ ap (λ (b : Bool). cond b (Ok (slave, at after rest)) (Err number)) within.long,
    )

pub record IsSlaveOf (masters : List ℕ) (description : SlaveSpec) (text : List ℕ) (slave : SlaveRecord) (rest : List ℕ) : Type 0 where
  pub written : text ≡ rows_text (slave_rows slave) ++ rest
  pub described : slave.description ≡ description
  pub remembers : map (λ m. m.master) slave.memory ≡ masters

pub slave_is : (masters : List ℕ) (d : SlaveSpec) (left : Left) (slave : SlaveRecord) (after : Left)
    → slave_read masters d left ≡ Ok (slave, after) → IsSlaveOf masters d left.text slave after.text
slave_is masters d left slave after e =
    let p1 = parted (read_row (hold_state_of_row d.address) left) (at_settings left.number masters d) (slave, after) e in
    let p2 = parted (read_row (settings_of_row d.address) p1.left) (at_prm left.number masters d p1.value) (slave, after) p1.rest_is in
    let p3 = parted (read_row (prm_of_row d.address) p2.left) (at_inputs left.number masters d p1.value p2.value) (slave, after) p2.rest_is in
    let p4 = parted (read_row (data_of_row (codes "in") d.address) p3.left) (at_outputs left.number masters d p1.value p2.value p3.value) (slave, after) p3.rest_is in
    let p5 = parted (read_row (data_of_row (codes "out") d.address) p4.left) (at_diag left.number masters d p1.value p2.value p3.value p4.value) (slave, after) p4.rest_is in
    let p6 = parted (read_row (diag_of_row d.address) p5.left) (at_memory left.number masters d p1.value p2.value p3.value p4.value p5.value) (slave, after) p5.rest_is in
    let p7 = parted (memory_read d.address masters p6.left) (with_memory left.number d p1.value p2.value p3.value p4.value p5.value p6.value) (slave, after) p6.rest_is in
    let is = some_ok {X = SlaveRecord × Left} (slave_with d p1.value p2.value p3.value p4.value p5.value p6.value p7.value, p7.left) (slave, after)
    (long_by left.number (slave_with d p1.value p2.value p3.value p4.value p5.value p6.value p7.value) p7.left (slave, after) _ p7.rest_is) in
    let w1 = row_is (hold_state_words d.address) hold_state_in left p1.value p1.left p1.first_is in
    let w2 = row_is (settings_words d.address) settings_in p1.left p2.value p2.left p2.first_is in
    let w3 = row_is (prm_words d.address) prm_in p2.left p3.value p3.left p3.first_is in
    let w4 = row_is (data_words (codes "in") d.address) data_in p3.left p4.value p4.left p4.first_is in
    let w5 = row_is (data_words (codes "out") d.address) data_in p4.left p5.value p5.left p5.first_is in
    let w6 = row_is (diag_words d.address) diag_in p5.left p6.value p6.left p6.first_is in
    let w7 = memory_is d.address masters p6.left p7.value p7.left p7.first_is in
    let t1 = row_text (hold_state_words d.address p1.value) in
    let t2 = row_text (settings_words d.address p2.value) in
    let t3 = row_text (prm_words d.address p3.value) in
    let t4 = row_text (data_words (codes "in") d.address p4.value) in
    let t5 = row_text (data_words (codes "out") d.address p5.value) in
    let t6 = row_text (diag_words d.address p6.value) in
    let t7 = rows_text (memory_rows d.address p7.value) in
    subst (λ (p : SlaveRecord × Left). IsSlaveOf masters d left.text p.0 p.1.text) is (record {
      written =
          chained t1 t2 t3 t4 t5 t6 t7 p7.left.text left.text p1.left.text p2.left.text p3.left.text p4.left.text p5.left.text p6.left.text
          w1 w2 w3 w4 w5 w6 w7.written;
      described = refl;
      remembers = w7.masters_are;
    })

-- ---- slaves

pub rows_joined : (rows others : List (List (List ℕ))) → rows_text (rows ++ others) ≡ rows_text rows ++ rows_text others
rows_joined [] others = refl
rows_joined (row ∷ rows) others =
    ap (λ (t : List ℕ). row_text row ++ t) (rows_joined rows others) ∙ sym (append_assoc (row_text row) (rows_text rows) (rows_text others))

abbrev with_slave : SlaveRecord → List SlaveRecord → Left → Reading (List SlaveRecord)
with_slave slave others rest = Ok (slave ∷ others, rest)

abbrev at_slaves : List ℕ → List SlaveSpec → SlaveRecord → Left → Reading (List SlaveRecord)
at_slaves masters descriptions slave behind = and_then (slaves_read masters descriptions behind) (with_slave slave)

pub slaves_back : (masters : List ℕ) (slaves : List SlaveRecord) (number : ℕ) (rest : List ℕ) → AllByRecursion (IsSlaveWithin masters) slaves
    → IsReadWith (slaves_read masters (map (λ s. s.description) slaves) (at number (rows_text (flat_map slave_rows slaves) ++ rest))) slaves rest
slaves_back masters [] number rest within = (number, refl)
slaves_back masters (slave ∷ slaves) number rest within =
    let descriptions = map (λ (s : SlaveRecord). s.description) slaves in
    let behind = rows_text (flat_map slave_rows slaves) ++ rest in
    let (middle, first) = slave_back masters slave number behind within.0 in
    let (after, others) = slaves_back masters slaves middle rest within.1 in (
      after,
      ap (λ (t : List ℕ). slaves_read masters (slave.description ∷ descriptions) (at number t))
          (ap (λ (t : List ℕ). t ++ rest) (rows_joined (slave_rows slave) (flat_map slave_rows slaves))
          ∙ append_assoc (rows_text (slave_rows slave)) (rows_text (flat_map slave_rows slaves)) rest)
          ∙ ap (λ (r : Reading SlaveRecord). and_then r (at_slaves masters descriptions)) first
          ∙ ap (λ (r : Reading (List SlaveRecord)). and_then r (with_slave slave)) others,
    )

pub record AreSlavesOf (masters : List ℕ) (descriptions : List SlaveSpec) (text : List ℕ) (slaves : List SlaveRecord) (rest : List ℕ) : Type 0 where
  pub written : text ≡ rows_text (flat_map slave_rows slaves) ++ rest
  pub described : map (λ s. s.description) slaves ≡ descriptions

pub slaves_are : (masters : List ℕ) (descriptions : List SlaveSpec) (left : Left) (slaves : List SlaveRecord) (after : Left)
    → slaves_read masters descriptions left ≡ Ok (slaves, after) → AreSlavesOf masters descriptions left.text slaves after.text
slaves_are masters [] left slaves after e =
    let is = some_ok {X = List SlaveRecord × Left} ([], left) (slaves, after) e in
    subst (λ (p : List SlaveRecord × Left). AreSlavesOf masters [] left.text p.0 p.1.text) is (record { written = refl; described = refl })
slaves_are masters (description ∷ descriptions) left slaves after e =
    let first = parted (slave_read masters description left) (at_slaves masters descriptions) (slaves, after) e in
    let second = parted (slaves_read masters descriptions first.left) (with_slave first.value) (slaves, after) first.rest_is in
    let is = some_ok {X = List SlaveRecord × Left} (first.value ∷ second.value, second.left) (slaves, after) second.rest_is in
    let here = slave_is masters description left first.value first.left first.first_is in
    let others = slaves_are masters descriptions first.left second.value second.left second.first_is in
    let rows = rows_text (slave_rows first.value) in
    subst (λ (p : List SlaveRecord × Left). AreSlavesOf masters (description ∷ descriptions) left.text p.0 p.1.text) is (record {
      written =
          here.written ∙ ap (λ (t : List ℕ). rows ++ t) others.written
          ∙ sym (append_assoc rows (rows_text (flat_map slave_rows second.value)) second.left.text)
          ∙ ap (λ (t : List ℕ). t ++ second.left.text) (sym (rows_joined (slave_rows first.value) (flat_map slave_rows second.value)));
      described = ap (λ (d : SlaveSpec). d ∷ map (λ (s : SlaveRecord). s.description) second.value) here.described ∙ ap (λ (ds : List SlaveSpec). description ∷ ds) others.described;
    })
