-- promise
-- What can happen to one slave (own).
-- An act is data, and Fields has one equation by cases on the act for each field. The record after an act is built only of these equations, so
-- no service can change a field that the table of the rules does not name. The acts of setting min TSDR and of reading the diagnosis carry their
-- sender, because they retrigger the watchdog only for the holder.
use Rattle.std.specs.Prelude.{ℕ, nat_le, Bool, true, false, List, Option}
use Rattle.std.specs.Option.{option_map_or}
use Rattle.dp_prm.specs.declared.prm.Prm.{Prm}
use Rattle.dp_slave.specs.SlaveRecord.{SlaveRecord, is_held_by}

-- the bits of a Global_Control that a slave reads (IEC 61158-6-3, Global_Control request)
pub record Control : Type 0 where
  pub clear_data : Bool
  pub unfreeze : Bool
  pub freeze : Bool
  pub unsync : Bool
  pub sync : Bool

pub data Act : Type 0 where
  -- Set_Prm, in its four forms: the sender locks with these parameters, in an event of this place; a fault; an unlock; and only min TSDR
  locks : (sender place : ℕ) (prm : Prm) → Act
  faults : (not_supported : Bool) → Act
  unlocks : Act
  sets_min_tsdr : (sender octet : ℕ) → Act
  -- Chk_Cfg: the octets are the configuration of this number, or no configuration of the slave
  configures : (number : ℕ) → Act
  misconfigures : Act
  -- Data_Exchange, of the whole length, and an empty one to a cleared slave
  exchanges : (octets : List ℕ) → Act
  exchanges_none : Act
  -- Slave_Diag
  sends_diagnosis : (sender : ℕ) → Act
  -- RD_Inp, RD_Outp and Get_Cfg
  is_read : Act
  -- a Global_Control that selects the slave
  is_controlled : (control : Control) → Act
  -- the device sets the inputs, the application reports a diagnosis, the operator marks a point as busy or as not busy
  is_fed : (octets : List ℕ) → Act
  reports : (ext stat overflow : Bool) (octets : List ℕ) → Act
  is_marked : (point : Option ℕ) (busy : Bool) → Act
  -- time passes, in units of 10 ms
  ticks : (time : ℕ) → Act
  -- the line halts
  halts : Act

-- its watchdog runs, and has no more than this time left (IEC 61158-6-3, slave state machine, watchdog)
abbrev pub runs_out : ℕ → Option ℕ → Bool
runs_out time left = option_map_or (λ units. nat_le units time) left false

-- the act releases the slave: wrong parameters or a wrong configuration, an unlock, a watchdog that runs out, a halt (own)
abbrev pub releases : SlaveRecord → Act → Bool
releases slave (faults not_supported) = true
releases slave unlocks = true
releases slave misconfigures = true
releases slave (ticks time) = runs_out time slave.left
releases slave halts = true
releases slave act = false

-- the act sets a running watchdog to its full time again: the holder's Slave_Diag, or its Set_Prm of only min TSDR; a good Chk_Cfg; Data_Exchange;
-- a Global_Control that selects the slave, which only the holder can send. A lock starts its own watchdog; reading doesn't retrigger (own)
abbrev pub retriggers : SlaveRecord → Act → Bool
retriggers slave (sets_min_tsdr sender octet) = is_held_by sender slave
retriggers slave (configures number) = true
retriggers slave (exchanges octets) = true
retriggers slave exchanges_none = true
retriggers slave (sends_diagnosis sender) = is_held_by sender slave
retriggers slave (is_controlled control) = true
retriggers slave act = false
