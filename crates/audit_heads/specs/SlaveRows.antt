-- detail
-- The rows of one slave: its words and what they say (own).
use Rattle.std.specs.Prelude.{codes, ℕ, Bool, if◌then◌else◌, List, [], ◌∷◌, map, Option, Some, None, option_map, Result, Ok, Err}
use Rattle.std.specs.Option.{option_and_then}
use Rattle.std.specs.Fmt.{decimal}
use Rattle.dp_sap.specs.AccessTable.{BusyMarks}
use Rattle.dp_sap.specs.Names.{state_name}
use Rattle.dp_responder.specs.Memory.{MasterMemory, Remembered}
use Rattle.dp_prm.specs.declared.prm.Prm.{Prm}
use Rattle.dp_diag.specs.declared.diag.Diag.{Diag}
use Rattle.dp_slave.specs.declared.description.SlaveSpec.{SlaveSpec}
use Rattle.dp_slave.specs.SlaveRecord.{SlaveRecord}
use Rattle.dp_slave.specs.Images.{slave_with}
use Rattle.audit_heads.specs.DataLengths.{is_long}
use Rattle.dp_text.specs.declared.ops.HexCase.TheVariants.{Lower}
use Rattle.dp_text.specs.Numbers.{number_to, octet_number}
use Rattle.dp_text.specs.Texts.{octets_text}
use Rattle.dp_text.specs.Events.{event_octets}
use Rattle.dp_slave.specs.declared.image.HoldState.{HoldState}
use Rattle.dp_slave.specs.declared.image.Settings.{Settings}
use Rattle.dp_slave.specs.declared.image.DataPair.{DataPair}
use Rattle.audit_heads.specs.FieldWords.{bit_of_word, bit_word, flags_word, is_letter, most_32, none_word, off_word, optional_of, optional_word, state_of_word}
use Rattle.audit_heads.specs.Rows.{Left, and_then, read_row, value_of_row}

-- ---- `slave A STATE HOLDER SINCE WATCHDOG BUSY`

-- the marks in the order of the access table: Data_Exchange, RD_Inp, RD_Outp, Global_Control, Get_Cfg, Slave_Diag, Set_Prm, Chk_Cfg
abbrev pub busy_word : BusyMarks → List ℕ
busy_word marks = flags_word (codes "xiogcdpk") (
    marks.data_exchange ∷ marks.rd_inp ∷ marks.rd_outp ∷ marks.global_control ∷ marks.get_cfg ∷ marks.slave_diag ∷ marks.set_prm ∷ marks.chk_cfg ∷ [])

abbrev pub busy_of : List ℕ → Option BusyMarks
busy_of (x ∷ i ∷ o ∷ g ∷ c ∷ d ∷ p ∷ k ∷ []) = Some (record {
  data_exchange = is_letter x;
  rd_inp = is_letter i;
  rd_outp = is_letter o;
  global_control = is_letter g;
  get_cfg = is_letter c;
  slave_diag = is_letter d;
  set_prm = is_letter p;
  chk_cfg = is_letter k;
})
busy_of other = None

abbrev pub hold_state_words : ℕ → HoldState → List (List ℕ)
hold_state_words address hold_state =
    codes "slave" ∷ decimal address ∷ state_name hold_state.state ∷ optional_word none_word hold_state.holder ∷ decimal hold_state.since
    ∷ optional_word off_word hold_state.left ∷ busy_word hold_state.busy ∷ []

abbrev pub hold_state_in : List (List ℕ) → Option HoldState
hold_state_in (key ∷ address ∷ state ∷ holder ∷ since ∷ left ∷ busy ∷ []) =
    option_and_then (λ s. option_and_then (λ h. option_and_then (λ n. option_and_then (λ l. option_map
    (λ b. record { state = s; holder = h; since = n; left = l; busy = b })
    (busy_of busy)) (optional_of off_word most_32 left)) (number_to most_32 since)) (optional_of none_word 255 holder)) (state_of_word state)
hold_state_in other = None

abbrev pub hold_state_of_row : ℕ → List ℕ → Option HoldState
hold_state_of_row address = value_of_row (hold_state_words address) hold_state_in

-- ---- `set A MIN_TSDR CFG SHAPE MODES`

-- three flags
abbrev pub Three : Type 0
Three = Bool × Bool × Bool

abbrev pub three_of : List ℕ → Option Three
three_of (first ∷ second ∷ third ∷ []) = Some (is_letter first, is_letter second, is_letter third)
three_of other = None

abbrev pub modes_word : Bool → Bool → Bool → List ℕ
modes_word sync freeze cleared = flags_word (codes "sfc") (sync ∷ freeze ∷ cleared ∷ [])

abbrev pub settings_words : ℕ → Settings → List (List ℕ)
settings_words address settings =
    codes "set" ∷ decimal address ∷ decimal settings.min_tsdr ∷ optional_word none_word settings.cfg ∷ decimal settings.shape
    ∷ modes_word settings.sync_mode settings.freeze_mode settings.cleared ∷ []

abbrev pub settings_in : List (List ℕ) → Option Settings
settings_in (key ∷ address ∷ tsdr ∷ cfg ∷ shape ∷ modes ∷ []) =
    option_and_then (λ t. option_and_then (λ c. option_and_then (λ s. option_map
    (λ (m : Three). record { min_tsdr = t; cfg = c; shape = s; sync_mode = m.0; freeze_mode = m.1; cleared = m.2 })
    (three_of modes)) (octet_number shape)) (optional_of none_word 255 cfg)) (octet_number tsdr)
settings_in other = None

abbrev pub settings_of_row : ℕ → List ℕ → Option Settings
settings_of_row address = value_of_row (settings_words address) settings_in

-- ---- `prm A none`, or `prm A WATCHDOG REQS MIN_TSDR GROUP OCTETS`

-- Sync_Req and Freeze_Req
abbrev pub reqs_word : Bool → Bool → List ℕ
reqs_word sync freeze = flags_word (codes "sf") (sync ∷ freeze ∷ [])

abbrev pub two_of : List ℕ → Option (Bool × Bool)
two_of (first ∷ second ∷ []) = Some (is_letter first, is_letter second)
two_of other = None

-- the words of parameters
abbrev pub prm_values : Prm → List (List ℕ)
prm_values prm =
    optional_word off_word prm.watchdog ∷ reqs_word prm.sync_req prm.freeze_req ∷ decimal prm.min_tsdr ∷ decimal prm.group
    ∷ octets_text prm.user.items ∷ []

abbrev pub prm_words : ℕ → Option Prm → List (List ℕ)
prm_words address None = codes "prm" ∷ decimal address ∷ none_word ∷ []
prm_words address (Some prm) = codes "prm" ∷ decimal address ∷ prm_values prm

-- the parameters of these words
abbrev pub prm_of : List ℕ → List ℕ → List (List ℕ) → Option Prm
prm_of watchdog reqs (tsdr ∷ group ∷ user ∷ []) =
    option_and_then (λ w. option_and_then (λ (r : Bool × Bool). option_and_then (λ t. option_and_then (λ g. option_map
    (λ u. record { watchdog = w; sync_req = r.0; freeze_req = r.1; min_tsdr = t; group = g; user = record { items = u } })
    (event_octets Lower 237 user)) (octet_number group)) (octet_number tsdr)) (two_of reqs)) (optional_of off_word most_32 watchdog)
prm_of watchdog reqs other = None

abbrev pub prm_in : List (List ℕ) → Option (Option Prm)
prm_in (key ∷ address ∷ name ∷ []) = Some None
prm_in (key ∷ address ∷ watchdog ∷ reqs ∷ words) = option_map Some (prm_of watchdog reqs words)
prm_in other = None

abbrev pub prm_of_row : ℕ → List ℕ → Option (Option Prm)
prm_of_row address = value_of_row (prm_words address) prm_in

-- ---- `in A OCTETS OCTETS` and `out A OCTETS OCTETS`

abbrev pub data_words : List ℕ → ℕ → DataPair → List (List ℕ)
data_words key address pair = key ∷ decimal address ∷ octets_text pair.first.items ∷ octets_text pair.second.items ∷ []

abbrev pub data_in : List (List ℕ) → Option DataPair
data_in (key ∷ address ∷ first ∷ second ∷ []) =
    option_and_then (λ f. option_map (λ s. record { first = record { items = f }; second = record { items = s } }) (event_octets Lower 244 second)) (event_octets Lower 244 first)
data_in other = None

abbrev pub data_of_row : List ℕ → ℕ → List ℕ → Option DataPair
data_of_row key address = value_of_row (data_words key address) data_in

-- ---- `diag A FLAGS OCTETS`

-- Ext_Diag, Stat_Diag, Ext_Diag_Overflow, not read yet, Prm_Fault, Cfg_Fault, Not_Supported
abbrev pub diag_word : Diag → List ℕ
diag_word diag = flags_word (codes "esoupcn") (
    diag.ext ∷ diag.stat ∷ diag.overflow ∷ diag.unread ∷ diag.prm_fault ∷ diag.cfg_fault ∷ diag.not_supported ∷ [])

-- a diagnosis with these flags and octets
abbrev pub diag_of : List ℕ → List ℕ → Option Diag
diag_of (e ∷ s ∷ o ∷ u ∷ p ∷ c ∷ n ∷ []) octets = Some (record {
  ext = is_letter e;
  stat = is_letter s;
  overflow = is_letter o;
  octets = record { items = octets };
  unread = is_letter u;
  prm_fault = is_letter p;
  cfg_fault = is_letter c;
  not_supported = is_letter n;
})
diag_of other octets = None

abbrev pub diag_words : ℕ → Diag → List (List ℕ)
diag_words address diag = codes "diag" ∷ decimal address ∷ diag_word diag ∷ octets_text diag.octets.items ∷ []

abbrev pub diag_in : List (List ℕ) → Option Diag
diag_in (key ∷ address ∷ flags ∷ octets ∷ []) = option_and_then (diag_of flags) (event_octets Lower 238 octets)
diag_in other = None

abbrev pub diag_of_row : ℕ → List ℕ → Option Diag
diag_of_row address = value_of_row (diag_words address) diag_in

-- ---- `last A M none`, or `last A M FCB OCTETS`

-- what the slave remembers of a master: nothing, or the frame count bit and the reply
abbrev pub last_words : ℕ → ℕ → Option Remembered → List (List ℕ)
last_words address master None = codes "last" ∷ decimal address ∷ decimal master ∷ none_word ∷ []
last_words address master (Some last) =
    codes "last" ∷ decimal address ∷ decimal master ∷ bit_word last.fcb ∷ octets_text last.reply ∷ []

abbrev pub last_in : List (List ℕ) → Option (Option Remembered)
last_in (key ∷ address ∷ master ∷ name ∷ []) = Some None
last_in (key ∷ address ∷ master ∷ fcb ∷ reply ∷ []) =
    option_and_then (λ f. option_map (λ r. Some (record { fcb = f; reply = r })) (event_octets Lower 255 reply)) (bit_of_word fcb)
last_in other = None

abbrev pub last_of_row : ℕ → ℕ → List ℕ → Option (Option Remembered)
last_of_row address master = value_of_row (last_words address master) last_in

-- ---- a slave

abbrev pub hold_state_of : SlaveRecord → HoldState
hold_state_of slave = record { state = slave.state; holder = slave.holder; since = slave.since; left = slave.left; busy = slave.busy }

abbrev pub settings_of : SlaveRecord → Settings
settings_of slave = record {
  min_tsdr = slave.min_tsdr;
  cfg = slave.cfg;
  shape = slave.shape;
  sync_mode = slave.sync_mode;
  freeze_mode = slave.freeze_mode;
  cleared = slave.cleared;
}

abbrev pub inputs_of : SlaveRecord → DataPair
inputs_of slave = record { first = record { items = slave.inputs }; second = record { items = slave.frozen_inputs } }

abbrev pub outputs_of : SlaveRecord → DataPair
outputs_of slave = record { first = record { items = slave.outputs }; second = record { items = slave.latest } }

-- the rows of a slave: six, and one for each master of the line
abbrev pub memory_rows : ℕ → List MasterMemory → List (List (List ℕ))
memory_rows address memory = map (λ m. last_words address m.master m.last) memory

abbrev pub slave_rows : SlaveRecord → List (List (List ℕ))
slave_rows slave =
    hold_state_words slave.description.address (hold_state_of slave)
    ∷ settings_words slave.description.address (settings_of slave)
    ∷ prm_words slave.description.address slave.prm
    ∷ data_words (codes "in") slave.description.address (inputs_of slave)
    ∷ data_words (codes "out") slave.description.address (outputs_of slave)
    ∷ diag_words slave.description.address slave.diag
    ∷ memory_rows slave.description.address slave.memory

-- what a slave remembers of each of these masters, read
abbrev pub memory_read : ℕ → List ℕ → Left → Result (List MasterMemory × Left) ℕ
memory_read address [] left = Ok ([], left)
memory_read address (master ∷ masters) left =
    and_then (read_row (last_of_row address master) left) (λ last behind.
    and_then (memory_read address masters behind) (λ others rest.
    Ok ((record { master = master; last = last }) ∷ others, rest)))

-- the slave, if its data are as long as its shape says; else the row of this number is wrong, the first one of the slave
abbrev pub if_long : ℕ → SlaveRecord → Left → Result (SlaveRecord × Left) ℕ
if_long number slave rest = if is_long slave then Ok (slave, rest) else Err number

-- the slave of this description, read: six rows, and one for each of the masters
abbrev pub slave_read : List ℕ → SlaveSpec → Left → Result (SlaveRecord × Left) ℕ
slave_read masters description left =
    and_then (read_row (hold_state_of_row description.address) left) (λ hold_state left_1.
    and_then (read_row (settings_of_row description.address) left_1) (λ settings left_2.
    and_then (read_row (prm_of_row description.address) left_2) (λ prm left_3.
    and_then (read_row (data_of_row (codes "in") description.address) left_3) (λ inputs left_4.
    and_then (read_row (data_of_row (codes "out") description.address) left_4) (λ outputs left_5.
    and_then (read_row (diag_of_row description.address) left_5) (λ diag left_6.
    and_then (memory_read description.address masters left_6) (λ memory rest.
    if_long left.number (slave_with description hold_state settings prm inputs outputs diag memory) rest)))))))
