-- The rows of a slave are read as this slave.
use Rattle.std.proofs.Common.{◌≡◌, ℕ, ◌+◌, ◌^◌, ◌<◌, ◌≤◌, Bool, true, false, List, ◌∷◌, ◌++◌, Option, Some, None, Ok, refl, codes, lit<, arith}
use Rattle.std.specs.Prelude.{IfSome}
use Rattle.std.specs.Fmt.{decimal}
use Rattle.dp_responder.specs.Memory.{Remembered}
use Rattle.dp_prm.specs.declared.prm.Prm.{Prm}
use Rattle.dp_diag.specs.declared.diag.Diag.{Diag}
use Rattle.dp_slave.specs.SlaveRecord.{SlaveRecord}
use Rattle.dp_text.specs.Events.{AreOctets}
use Rattle.dp_text.proofs.ReadBack.{number_read, octets_read}
use Rattle.dp_slave.specs.declared.image.DataPair.{DataPair}
use Rattle.audit_heads.specs.FieldWords.{bit_word, most_32, none_word, off_word, optional_word}
use Rattle.audit_heads.specs.Rows.{read_row, row_text}
use Rattle.audit_heads.specs.SlaveRows.{data_in, data_of_row, data_words, diag_in, diag_of_row, diag_words, last_in, last_of_row, last_words, prm_in, prm_of_row, prm_words, settings_in, settings_of, settings_of_row, settings_words, hold_state_in, hold_state_of, hold_state_of_row, hold_state_words}
use Rattle.audit_heads.specs.Limits.{IsOctet, IsPrmWithin, IsSlaveWithin}
use Rattle.audit_heads.proofs.Plain.{IsRow, all_plain, decimal_plain, flags_plain, is_row, octets_plain, state_plain}
use Rattle.audit_heads.proofs.RowsRead.{row_read}
use Rattle.audit_heads.proofs.FieldsRead.{bit_read, letter_read, optional_read, state_read}

-- ---- words

octet_plain : (number : ℕ) → IsOctet number → all_plain (decimal number) ≡ true
octet_plain number small = decimal_plain number (omega arith)

pub optional_plain : (name : List ℕ) (bound : ℕ) (number : Option ℕ) → all_plain name ≡ true → bound ≤ 2 ^ 64 → IfSome number (λ n. n < bound)
    → all_plain (optional_word name number) ≡ true
optional_plain name bound None plain high within = plain
optional_plain name bound (Some number) plain high within = decimal_plain number (omega (arith, high, within))

pub at_most : (bound most : ℕ) (number : Option ℕ) → bound ≤ most + 1 → IfSome number (λ n. n < bound) → IfSome number (λ n. n ≤ most)
at_most bound most None high within = tt
at_most bound most (Some number) high within = omega (arith, high, within)

bit_plain : (bit : Bool) → all_plain (bit_word bit) ≡ true
bit_plain true = refl
bit_plain false = refl

-- ---- rows, one by one

hold_state_row : (masters : List ℕ) (slave : SlaveRecord) → IsSlaveWithin masters slave → IsRow (hold_state_words slave.description.address (hold_state_of slave))
hold_state_row masters slave within = is_row (codes "slave") _ (rw (
  octet_plain slave.description.address within.address,
  state_plain slave.state,
  optional_plain none_word 256 slave.holder refl (omega arith) within.holder,
  decimal_plain slave.since (omega (arith, within.since)),
  optional_plain off_word 4294967296 slave.left refl (omega arith) within.left,
  flags_plain (codes "xiogcdpk") _ refl,
) refl)

pub hold_state_back : (masters : List ℕ) (slave : SlaveRecord) (number : ℕ) (rest : List ℕ) → IsSlaveWithin masters slave
    → read_row (hold_state_of_row slave.description.address) (record { number = number; text = row_text (hold_state_words slave.description.address (hold_state_of slave)) ++ rest })
    ≡ Ok (hold_state_of slave, record { number = number + 1; text = rest })
hold_state_back masters slave number rest within =
    row_read (hold_state_words slave.description.address) hold_state_in (hold_state_of slave) number rest (hold_state_row masters slave within) (rw (
      state_read slave.state,
      optional_read none_word 255 slave.holder (lit< tt) (omega arith) (at_most 256 255 slave.holder (omega arith) within.holder),
      number_read slave.since most_32 (omega (arith, within.since)) (omega (arith, within.since)),
      optional_read off_word most_32 slave.left (lit< tt) (omega arith) (at_most 4294967296 most_32 slave.left (omega arith) within.left),
      letter_read slave.busy.data_exchange 120 refl,
      letter_read slave.busy.rd_inp 105 refl,
      letter_read slave.busy.rd_outp 111 refl,
      letter_read slave.busy.global_control 103 refl,
      letter_read slave.busy.get_cfg 99 refl,
      letter_read slave.busy.slave_diag 100 refl,
      letter_read slave.busy.set_prm 112 refl,
      letter_read slave.busy.chk_cfg 107 refl,
    ) refl)

settings_row : (masters : List ℕ) (slave : SlaveRecord) → IsSlaveWithin masters slave → IsRow (settings_words slave.description.address (settings_of slave))
settings_row masters slave within = is_row (codes "set") _ (rw (
  octet_plain slave.description.address within.address,
  octet_plain slave.min_tsdr within.min_tsdr,
  optional_plain none_word 256 slave.cfg refl (omega arith) within.cfg,
  octet_plain slave.shape within.shape,
  flags_plain (codes "sfc") _ refl,
) refl)

pub settings_back : (masters : List ℕ) (slave : SlaveRecord) (number : ℕ) (rest : List ℕ) → IsSlaveWithin masters slave
    → read_row (settings_of_row slave.description.address) (record { number = number; text = row_text (settings_words slave.description.address (settings_of slave)) ++ rest })
    ≡ Ok (settings_of slave, record { number = number + 1; text = rest })
settings_back masters slave number rest within =
    row_read (settings_words slave.description.address) settings_in (settings_of slave) number rest (settings_row masters slave within) (rw (
      number_read slave.min_tsdr 255 (omega (arith, within.min_tsdr)) (omega (arith, within.min_tsdr)),
      optional_read none_word 255 slave.cfg (lit< tt) (omega arith) (at_most 256 255 slave.cfg (omega arith) within.cfg),
      number_read slave.shape 255 (omega (arith, within.shape)) (omega (arith, within.shape)),
      letter_read slave.sync_mode 115 refl,
      letter_read slave.freeze_mode 102 refl,
      letter_read slave.cleared 99 refl,
    ) refl)

prm_row : (address : ℕ) (prm : Option Prm) → IsOctet address → IfSome prm IsPrmWithin → IsRow (prm_words address prm)
prm_row address None small within = is_row (codes "prm") _ (rw (octet_plain address small) refl)
prm_row address (Some prm) small within = is_row (codes "prm") _ (rw (
  octet_plain address small,
  optional_plain off_word 4294967296 prm.watchdog refl (omega arith) within.watchdog,
  flags_plain (codes "sf") _ refl,
  octet_plain prm.min_tsdr within.min_tsdr,
  octet_plain prm.group within.group,
  octets_plain prm.user.items,
) refl)

prm_found : (address : ℕ) (prm : Option Prm) → IfSome prm IsPrmWithin → prm_in (prm_words address prm) ≡ Some prm
prm_found address None within = refl
prm_found address (Some prm) within = rw (
  optional_read off_word most_32 prm.watchdog (lit< tt) (omega arith) (at_most 4294967296 most_32 prm.watchdog (omega arith) within.watchdog),
  letter_read prm.sync_req 115 refl,
  letter_read prm.freeze_req 102 refl,
  number_read prm.min_tsdr 255 (omega (arith, within.min_tsdr)) (omega (arith, within.min_tsdr)),
  number_read prm.group 255 (omega (arith, within.group)) (omega (arith, within.group)),
  octets_read 237 prm.user.items within.user,
) refl

pub prm_back : (address : ℕ) (prm : Option Prm) (number : ℕ) (rest : List ℕ) → IsOctet address → IfSome prm IsPrmWithin
    → read_row (prm_of_row address) (record { number = number; text = row_text (prm_words address prm) ++ rest })
    ≡ Ok (prm, record { number = number + 1; text = rest })
prm_back address prm number rest small within =
    row_read (prm_words address) prm_in prm number rest (prm_row address prm small within) (prm_found address prm within)

data_row : (letter : ℕ) (letters : List ℕ) (address : ℕ) (pair : DataPair) → all_plain (letter ∷ letters) ≡ true → IsOctet address → IsRow (data_words (letter ∷ letters) address pair)
data_row letter letters address pair plain small = is_row (letter ∷ letters) _ (rw (
  plain,
  octet_plain address small,
  octets_plain pair.first.items,
  octets_plain pair.second.items,
) refl)

pub data_back : (letter : ℕ) (letters : List ℕ) (address : ℕ) (pair : DataPair) (number : ℕ) (rest : List ℕ) → all_plain (letter ∷ letters) ≡ true → IsOctet address
    → AreOctets 244 pair.first.items → AreOctets 244 pair.second.items
    → read_row (data_of_row (letter ∷ letters) address) (record { number = number; text = row_text (data_words (letter ∷ letters) address pair) ++ rest })
    ≡ Ok (pair, record { number = number + 1; text = rest })
data_back letter letters address pair number rest plain small first second =
    row_read (data_words (letter ∷ letters) address) data_in pair number rest (data_row letter letters address pair plain small)
    (rw (octets_read 244 pair.first.items first, octets_read 244 pair.second.items second) refl)

diag_row : (address : ℕ) (diag : Diag) → IsOctet address → IsRow (diag_words address diag)
diag_row address diag small = is_row (codes "diag") _ (rw (
  octet_plain address small,
  flags_plain (codes "esoupcn") _ refl,
  octets_plain diag.octets.items,
) refl)

pub diag_back : (address : ℕ) (diag : Diag) (number : ℕ) (rest : List ℕ) → IsOctet address → AreOctets 238 diag.octets.items
    → read_row (diag_of_row address) (record { number = number; text = row_text (diag_words address diag) ++ rest })
    ≡ Ok (diag, record { number = number + 1; text = rest })
diag_back address diag number rest small octets =
    row_read (diag_words address) diag_in diag number rest (diag_row address diag small) (rw (
      octets_read 238 diag.octets.items octets,
      letter_read diag.ext 101 refl,
      letter_read diag.stat 115 refl,
      letter_read diag.overflow 111 refl,
      letter_read diag.unread 117 refl,
      letter_read diag.prm_fault 112 refl,
      letter_read diag.cfg_fault 99 refl,
      letter_read diag.not_supported 110 refl,
    ) refl)

last_row : (address master : ℕ) (last : Option Remembered) → IsOctet address → IsOctet master → IsRow (last_words address master last)
last_row address master None small small_master = is_row (codes "last") _ (rw (octet_plain address small, octet_plain master small_master) refl)
last_row address master (Some last) small small_master = is_row (codes "last") _ (rw (
  octet_plain address small,
  octet_plain master small_master,
  bit_plain last.fcb,
  octets_plain last.reply,
) refl)

last_found : (address master : ℕ) (last : Option Remembered) → IfSome last (λ l. AreOctets 255 l.reply) → last_in (last_words address master last) ≡ Some last
last_found address master None reply = refl
last_found address master (Some last) reply = rw (bit_read last.fcb, octets_read 255 last.reply reply) refl

pub last_back : (address master : ℕ) (last : Option Remembered) (number : ℕ) (rest : List ℕ) → IsOctet address → IsOctet master → IfSome last (λ l. AreOctets 255 l.reply)
    → read_row (last_of_row address master) (record { number = number; text = row_text (last_words address master last) ++ rest })
    ≡ Ok (last, record { number = number + 1; text = rest })
last_back address master last number rest small small_master reply =
    row_read (last_words address master) last_in last number rest (last_row address master last small small_master) (last_found address master last reply)
