-- How many rows a head has, and how many octets a row and a head have.
use Rattle.std.proofs.Common.{◌≡◌, ℕ, suc, ◌+◌, ◌*◌, ◌<◌, ◌≤◌, Bool, true, false, List, [], ◌∷◌, ◌++◌, length, Option, Some, None, refl, sym, ap, ◌∙◌, length-append, suc-mul, codes, lit≤, arith}
use Rattle.std.proofs.lemmas.Nat.{mul-le}
use Rattle.std.proofs.lemmas.List.{length-map}
use Rattle.std.specs.Prelude.{IfSome}
use Rattle.std.specs.List.{AllByRecursion, flat_map}
use Rattle.std.specs.Fmt.{decimal}
use Rattle.dp_sap.specs.Names.{state_name}
use Rattle.dp_responder.specs.Memory.{MasterMemory, Remembered}
use Rattle.dp_prm.specs.declared.prm.Prm.{Prm}
use Rattle.dp_diag.specs.declared.diag.Diag.{Diag}
use Rattle.dp_slave.specs.SlaveRecord.{SlaveRecord}
use Rattle.dp_line.specs.World.{Description}
use Rattle.dp_text.specs.Events.{AreOctets}
use Rattle.dp_text.specs.Texts.{octets_text}
use Rattle.dp_text.proofs.Decimals.{short, short_octet, short_long}
use Rattle.dp_text.proofs.Lengths.{hex_length, state_is_short}
use Rattle.audit_heads.specs.declared.running.Running.{Running}
use Rattle.dp_slave.specs.declared.image.DataPair.{DataPair}
use Rattle.audit_heads.specs.FieldWords.{bit_word, halted_word, none_word, off_word, optional_word}
use Rattle.audit_heads.specs.Rows.{row_text, rows_text, spaced}
use Rattle.audit_heads.specs.SlaveRows.{busy_word, data_words, diag_word, diag_words, inputs_of, last_words, memory_rows, modes_word, outputs_of, prm_words, reqs_word, settings_of, settings_words, slave_rows, hold_state_of, hold_state_words}
use Rattle.audit_heads.specs.Head.{Head, head_rows, head_text, header_words, running_words}
use Rattle.audit_heads.specs.Limits.{IsMemoryWithin, IsOctet, IsPrmWithin, IsSlaveWithin, IsWithin}
use Rattle.audit_heads.proofs.SlavesRead.{rows_joined}

-- ---- words

-- each word of a row, and a space or the LF behind it
abbrev row_size : List (List ℕ) → ℕ
row_size [] = 0
row_size (word ∷ words) = length word + 1 + row_size words

row_is_long : (word : List ℕ) (words : List (List ℕ)) → length (row_text (word ∷ words)) ≡ row_size (word ∷ words)
row_is_long word [] = omega (arith, length-append word (codes "\n"))
row_is_long word (next ∷ words) =
    let others = row_is_long next words in
    omega (
      arith,
      others,
      length-append (word ++ 32 ∷ spaced (next ∷ words)) (codes "\n"),
      length-append word (32 ∷ spaced (next ∷ words)),
      length-append (spaced (next ∷ words)) (codes "\n"),
    )

optional_is_short : (name : List ℕ) (bound most : ℕ) (number : Option ℕ) → length name ≤ most → IfSome number (λ n. n < bound)
    → ((n : ℕ) → n < bound → length (decimal n) ≤ most) → length (optional_word name number) ≤ most
optional_is_short name bound most None short_name within short = short_name
optional_is_short name bound most (Some number) short_name within short = short number within

octets_are_short : (most : ℕ) (octets : List ℕ) → 1 ≤ most → AreOctets most octets → length (octets_text octets) ≤ 2 * most
octets_are_short most [] some are = omega (arith, some)
octets_are_short most (octet ∷ octets) some are = omega (arith, hex_length (octet ∷ octets), are.0)

bit_is_short : (bit : Bool) → length (bit_word bit) ≤ 1
bit_is_short true = lit≤ tt
bit_is_short false = lit≤ tt

halted_is_short : (halted : Bool) → length (halted_word halted) ≤ 7
halted_is_short true = lit≤ tt
halted_is_short false = lit≤ tt

at_most_4 : (n : ℕ) → n < 256 → length (decimal n) ≤ 4
at_most_4 n small = omega (arith, short_octet n small)

at_most_10 : (n : ℕ) → n < 4294967296 → length (decimal n) ≤ 10
at_most_10 n small = short n (omega arith)

at_most_20 : (n : ℕ) → n < 18446744073709551616 → length (decimal n) ≤ 20
at_most_20 n small = short_long n (omega arith)

-- ---- rows

hold_state_size : (masters : List ℕ) (slave : SlaveRecord) → IsSlaveWithin masters slave → length (row_text (hold_state_words slave.description.address (hold_state_of slave))) ≤ 55
hold_state_size masters slave within =
    let a = slave.description.address in
    let words = decimal a ∷ state_name slave.state ∷ optional_word none_word slave.holder ∷ decimal slave.since ∷ optional_word off_word slave.left ∷ busy_word slave.busy ∷ [] in
    let long = row_is_long (codes "slave") words in
    let address = short_octet a within.address in
    let state = state_is_short slave.state in
    let holder = optional_is_short none_word 256 4 slave.holder (lit≤ tt) within.holder at_most_4 in
    let since = short slave.since (omega (arith, within.since)) in
    let left = optional_is_short off_word 4294967296 10 slave.left (lit≤ tt) within.left at_most_10 in
    omega (arith, long, address, state, holder, since, left)

settings_size : (masters : List ℕ) (slave : SlaveRecord) → IsSlaveWithin masters slave → length (row_text (settings_words slave.description.address (settings_of slave))) ≤ 25
settings_size masters slave within =
    let a = slave.description.address in
    let words = decimal a ∷ decimal slave.min_tsdr ∷ optional_word none_word slave.cfg ∷ decimal slave.shape ∷ modes_word slave.sync_mode slave.freeze_mode slave.cleared ∷ [] in
    let long = row_is_long (codes "set") words in
    let address = short_octet a within.address in
    let tsdr = short_octet slave.min_tsdr within.min_tsdr in
    let cfg = optional_is_short none_word 256 4 slave.cfg (lit≤ tt) within.cfg at_most_4 in
    let shape = short_octet slave.shape within.shape in
    omega (arith, long, address, tsdr, cfg, shape)

prm_size : (address : ℕ) (prm : Option Prm) → IsOctet address → IfSome prm IsPrmWithin → length (row_text (prm_words address prm)) ≤ 505
prm_size address None small within =
    let long = row_is_long (codes "prm") (decimal address ∷ none_word ∷ []) in
    omega (arith, long, short_octet address small)
prm_size address (Some prm) small within =
    let words = decimal address ∷ optional_word off_word prm.watchdog ∷ reqs_word prm.sync_req prm.freeze_req ∷ decimal prm.min_tsdr ∷ decimal prm.group ∷ octets_text prm.user.items ∷ [] in
    let long = row_is_long (codes "prm") words in
    let watchdog = optional_is_short off_word 4294967296 10 prm.watchdog (lit≤ tt) within.watchdog at_most_10 in
    let tsdr = short_octet prm.min_tsdr within.min_tsdr in
    let group = short_octet prm.group within.group in
    let user = octets_are_short 237 prm.user.items (lit≤ tt) within.user in
    omega (arith, long, short_octet address small, watchdog, tsdr, group, user)

data_size : (key : List ℕ) (address : ℕ) (pair : DataPair) → length key ≤ 3 → IsOctet address → AreOctets 244 pair.first.items → AreOctets 244 pair.second.items
    → length (row_text (data_words key address pair)) ≤ 986
data_size key address pair short_key small first second =
    let long = row_is_long key (decimal address ∷ octets_text pair.first.items ∷ octets_text pair.second.items ∷ []) in
    omega (arith, long, short_key, short_octet address small, octets_are_short 244 pair.first.items (lit≤ tt) first, octets_are_short 244 pair.second.items (lit≤ tt) second)

diag_size : (address : ℕ) (diag : Diag) → IsOctet address → AreOctets 238 diag.octets.items → length (row_text (diag_words address diag)) ≤ 494
diag_size address diag small octets =
    let long = row_is_long (codes "diag") (decimal address ∷ diag_word diag ∷ octets_text diag.octets.items ∷ []) in
    omega (arith, long, short_octet address small, octets_are_short 238 diag.octets.items (lit≤ tt) octets)

last_size : (address master : ℕ) (last : Option Remembered) → IsOctet address → IsOctet master → IfSome last (λ l. AreOctets 255 l.reply)
    → length (row_text (last_words address master last)) ≤ 526
last_size address master None small small_master reply =
    let long = row_is_long (codes "last") (decimal address ∷ decimal master ∷ none_word ∷ []) in
    omega (arith, long, short_octet address small, short_octet master small_master)
last_size address master (Some last) small small_master reply =
    let long = row_is_long (codes "last") (decimal address ∷ decimal master ∷ bit_word last.fcb ∷ octets_text last.reply ∷ []) in
    omega (arith, long, short_octet address small, short_octet master small_master, bit_is_short last.fcb, octets_are_short 255 last.reply (lit≤ tt) reply)

header_size : (number place : ℕ) → number < 256 → place < 4294967296 → length (row_text (header_words number place)) ≤ 38
header_size number place small within =
    let long = row_is_long (codes "rack-audit") (codes "3" ∷ codes "line" ∷ decimal number ∷ codes "from" ∷ decimal place ∷ []) in
    omega (arith, long, short_octet number small, short place (omega arith))

running_size : (running : Running) → IfSome running.time (λ units. units < 18446744073709551616) → length (row_text (running_words running)) ≤ 34
running_size running within =
    let long = row_is_long (codes "line") (halted_word running.halted ∷ optional_word none_word running.time ∷ []) in
    let time = optional_is_short none_word 18446744073709551616 20 running.time (lit≤ tt) within at_most_20 in
    omega (arith, long, halted_is_short running.halted, time)

-- ---- slaves

abbrev pub IsShortRow : List (List ℕ) → Type 0
IsShortRow words = length (row_text words) ≤ 986

memory_sizes : (address : ℕ) (memory : List MasterMemory) → IsOctet address → AllByRecursion IsMemoryWithin memory
    → AllByRecursion IsShortRow (memory_rows address memory) × (length (memory_rows address memory) ≡ length memory) × (length (rows_text (memory_rows address memory)) ≤ 526 * length memory)
memory_sizes address [] small within = (tt, refl, omega arith)
memory_sizes address (m ∷ memory) small within =
    let here = last_size address m.master m.last small within.0.master within.0.reply in
    let (rows, count, octets) = memory_sizes address memory small within.1 in (
      (omega (arith, here), rows),
      omega (arith, count),
      omega (arith, here, octets, length-append (row_text (last_words address m.master m.last)) (rows_text (memory_rows address memory))),
    )

-- the rows of a slave of a line with this number of masters
pub record HasSizes (slave : SlaveRecord) (masters : ℕ) : Type 0 where
  pub rows : AllByRecursion IsShortRow (slave_rows slave)
  pub count : length (slave_rows slave) ≡ 6 + masters
  pub octets : length (rows_text (slave_rows slave)) ≤ 3051 + 526 * masters

slave_sizes : (masters : List ℕ) (slave : SlaveRecord) → IsSlaveWithin masters slave → HasSizes slave (length masters)
slave_sizes masters slave within =
    let a = slave.description.address in
    let hold_state = hold_state_size masters slave within in
    let settings = settings_size masters slave within in
    let prm = prm_size a slave.prm within.address within.prm in
    let inputs = data_size (codes "in") a (inputs_of slave) (lit≤ tt) within.address within.inputs within.frozen_inputs in
    let outputs = data_size (codes "out") a (outputs_of slave) (lit≤ tt) within.address within.outputs within.latest in
    let diag = diag_size a slave.diag within.address within.diagnosis in
    let (rows, count, octets) = memory_sizes a slave.memory within.address within.memory in
    let each : length slave.memory ≡ length masters = sym (length-map slave.memory (λ m. m.master)) ∙ ap length within.remembers in
    let t7 = rows_text (memory_rows a slave.memory) in
    let t6 = row_text (diag_words a slave.diag) in
    let t5 = row_text (data_words (codes "out") a (outputs_of slave)) in
    let t4 = row_text (data_words (codes "in") a (inputs_of slave)) in
    let t3 = row_text (prm_words a slave.prm) in
    let t2 = row_text (settings_words a (settings_of slave)) in
    let t1 = row_text (hold_state_words a (hold_state_of slave)) in
    let l6 = length-append t6 t7 in
    let l5 = length-append t5 (t6 ++ t7) in
    let l4 = length-append t4 (t5 ++ (t6 ++ t7)) in
    let l3 = length-append t3 (t4 ++ (t5 ++ (t6 ++ t7))) in
    let l2 = length-append t2 (t3 ++ (t4 ++ (t5 ++ (t6 ++ t7)))) in
    let l1 = length-append t1 (t2 ++ (t3 ++ (t4 ++ (t5 ++ (t6 ++ t7))))) in
    record {
      rows = (omega (arith, hold_state), (omega (arith, settings), (omega (arith, prm), (omega (arith, inputs), (omega (arith, outputs), (omega (arith, diag), rows))))));
      count = omega (arith, count, each);
      octets = whole (length slave.memory) (length masters) (length t1) (length t2) (length t3) (length t4) (length t5) (length t6) (length t7) _
          (l1 ∙ ap (λ n. length t1 + n) (l2 ∙ ap (λ n. length t2 + n) (l3 ∙ ap (λ n. length t3 + n) (l4 ∙ ap (λ n. length t4 + n) (l5 ∙ ap (λ n. length t5 + n) l6)))))
          each hold_state settings prm inputs outputs diag octets;
    }
  where
    whole : (k m a b c d e f g all : ℕ) → all ≡ a + (b + (c + (d + (e + (f + g))))) → k ≡ m
        → a ≤ 55 → b ≤ 25 → c ≤ 505 → d ≤ 986 → e ≤ 986 → f ≤ 494 → g ≤ 526 * k → all ≤ 3051 + 526 * m
    whole k m a b c d e f g all is each p1 p2 p3 p4 p5 p6 p7 = omega arith

joined_rows : (rows others : List (List (List ℕ))) → AllByRecursion IsShortRow rows → AllByRecursion IsShortRow others → AllByRecursion IsShortRow (rows ++ others)
joined_rows [] others first second = second
joined_rows (row ∷ rows) others first second = (first.0, joined_rows rows others first.1 second)

-- the rows of slaves
pub record HaveSizes (slaves : List SlaveRecord) (masters : ℕ) : Type 0 where
  pub rows : AllByRecursion IsShortRow (flat_map slave_rows slaves)
  pub count : length (flat_map slave_rows slaves) ≡ length slaves * (6 + masters)
  pub octets : length (rows_text (flat_map slave_rows slaves)) ≤ length slaves * (3051 + 526 * masters)

slaves_sizes : (masters : List ℕ) (slaves : List SlaveRecord) → AllByRecursion (IsSlaveWithin masters) slaves → HaveSizes slaves (length masters)
slaves_sizes masters [] within = record { rows = tt; count = omega arith; octets = omega arith }
slaves_sizes masters (slave ∷ slaves) within =
    let here = slave_sizes masters slave within.0 in
    let others = slaves_sizes masters slaves within.1 in
    let rows = slave_rows slave in
    let behind = flat_map slave_rows slaves in
    record {
      rows = joined_rows rows behind here.rows others.rows;
      count = counted (length slaves) (6 + length masters) (length rows) (length behind) _ (length-append rows behind) here.count others.count;
      octets = bounded (length slaves) (3051 + 526 * length masters) (length (rows_text rows)) (length (rows_text behind)) _
          (ap length (rows_joined rows behind) ∙ length-append (rows_text rows) (rows_text behind)) here.octets others.octets;
    }
  where
    counted : (n each here behind all : ℕ) → all ≡ here + behind → here ≡ each → behind ≡ n * each → all ≡ (suc n) * each
    counted n each here behind all is first others = rw suc-mul (omega (arith, is, first, others))

    bounded : (n each here behind all : ℕ) → all ≡ here + behind → here ≤ each → behind ≤ n * each → all ≤ (suc n) * each
    bounded n each here behind all is first others = rw suc-mul (omega (arith, is, first, others))

-- ---- a head

pub rows_counted : (line : Description) (head : Head) → IsWithin line head → length (head_rows line.number head) ≡ 2 + length head.world.slaves * (6 + length line.masters)
rows_counted line head within = let sizes = slaves_sizes line.masters head.world.slaves within.slaves in omega (arith, sizes.count)

pub rows_short : (line : Description) (head : Head) → IsWithin line head → AllByRecursion IsShortRow (head_rows line.number head)
rows_short line head within =
    let sizes = slaves_sizes line.masters head.world.slaves within.slaves in
    let first = header_size line.number head.world.count within.number within.count in
    let second = running_size (record { halted = head.world.halted; time = head.time }) within.time in
    (omega (arith, first), (omega (arith, second), sizes.rows))

pub head_bounded : (line : Description) (head : Head) → IsWithin line head
    → length (head_text line.number head) ≤ 72 + length head.world.slaves * (3051 + 526 * length line.masters)
unfolding head_text
head_bounded line head within =
    let sizes = slaves_sizes line.masters head.world.slaves within.slaves in
    let running : Running = record { halted = head.world.halted; time = head.time } in
    let first = header_size line.number head.world.count within.number within.count in
    let second = running_size running within.time in
    let t1 = row_text (header_words line.number head.world.count) in
    let t2 = row_text (running_words running) in
    let t3 = rows_text (flat_map slave_rows head.world.slaves) in
    omega (arith, first, second, sizes.octets, length-append t1 (t2 ++ t3), length-append t2 t3)

pub head_at_most : (line : Description) (head : Head) → IsWithin line head → length head.world.slaves ≤ 64 → length line.masters ≤ 16
    → length (head_text line.number head) ≤ 733960
head_at_most line head within slaves masters =
    let bounded = head_bounded line head within in
    let product = mul-le (length head.world.slaves) (3051 + 526 * length line.masters) 64 11467 slaves (omega (arith, masters)) in
    omega (arith, bounded, product)
