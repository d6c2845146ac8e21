-- promise
-- What a DP slave is at one moment (IEC 61158-6-3, slave state machine).
use Rattle.std.specs.Prelude.{◌≡◌, ℕ, ◌==◌, Bool, false, if◌then◌else◌, ◌-◌, ◌++◌, List, [], length, map, replicate, slice_get, take, unwrap_or, Option, None, is_ok, is_some}
use Rattle.std.specs.Option.{option_map_or, option_and_then}
use Rattle.dp_sap.specs.declared.state.State.{State}
use Rattle.dp_sap.specs.declared.state.State.TheVariants.{WaitPrm}
use Rattle.dp_sap.specs.AccessTable.{BusyMarks, PointsView, no_marks}
use Rattle.dp_responder.specs.Memory.{MasterMemory, no_memory}
use Rattle.dp_prm.specs.declared.prm.Prm.{Prm}
use Rattle.dp_prm.specs.declared.limits.Limits.{Limits}
use Rattle.dp_cfg.specs.Reading.{input_octets, output_octets, reading_of}
use Rattle.dp_diag.specs.declared.diag.Diag.{Diag}
use Rattle.dp_diag.specs.declared.facts.DiagFacts.{DiagFacts}
use Rattle.dp_diag.specs.Diagnosis.{no_diagnosis}
use Rattle.dp_slave.specs.declared.description.SlaveSpec.{SlaveSpec}

-- one slave: its description, and what events change (own)
pub record SlaveRecord : Type 0 where
  pub description : SlaveSpec
  pub state : State
  -- the master that holds it, and the place of the event that began its present hold; 0 if nobody holds it
  pub holder : Option ℕ
  pub since : ℕ
  -- the shortest time to a reply, in bit times
  pub min_tsdr : ℕ
  -- the parameters of its holder, and the number of the configuration that it sent
  pub prm : Option Prm
  pub cfg : Option ℕ
  -- the shape in force: the number of the configuration that says how long the data are, also while no master has sent one
  pub shape : ℕ
  -- the inputs, and the frozen inputs, as Freeze took them
  pub inputs : List ℕ
  pub frozen_inputs : List ℕ
  -- the outputs, and the data that came last, which differ in sync mode
  pub outputs : List ℕ
  pub latest : List ℕ
  pub sync_mode : Bool
  pub freeze_mode : Bool
  -- it is fail-safe and its data were cleared, so that it takes an empty Data_Exchange too
  pub cleared : Bool
  -- the watchdog's remaining time in units of 10 ms, None if it is off
  pub left : Option ℕ
  pub diag : Diag
  pub busy : BusyMarks
  pub memory : List MasterMemory

-- the octets of the described configurations, and of the one of a number; none if there is no such configuration
abbrev pub configurations : SlaveSpec → List (List ℕ)
configurations description = map (λ configuration. configuration.items) description.cfgs.items

abbrev pub configuration : SlaveSpec → ℕ → List ℕ
configuration description number = unwrap_or (slice_get (configurations description) number) []

-- the octets split into identifiers, with at most 244 octets of inputs and of outputs (IEC 61158-6-3, configuration identifiers)
abbrev pub can_be_parsed : List ℕ → Bool
can_be_parsed octets = is_ok (reading_of octets)

-- how many octets of inputs and of outputs a configuration has (IEC 61158-6-3, configuration identifiers)
abbrev pub inputs_of : SlaveSpec → ℕ → ℕ
inputs_of description number = input_octets (configuration description number)

abbrev pub outputs_of : SlaveSpec → ℕ → ℕ
outputs_of description number = output_octets (configuration description number)

-- how many a slave has, by the shape in force (own)
abbrev pub input_length : SlaveRecord → ℕ
input_length slave = inputs_of slave.description slave.shape

abbrev pub output_length : SlaveRecord → ℕ
output_length slave = outputs_of slave.description slave.shape

-- this number of zero octets (own)
abbrev pub zeros : ℕ → List ℕ
zeros count = replicate count 0

-- octets cut or filled with zeros at the end to this length (own)
abbrev pub cut_or_filled : ℕ → List ℕ → List ℕ
cut_or_filled count octets = take count octets ++ zeros (count - length octets)

-- its points: state, holder and output length, which decide which points are on and for how many octets; whether Data_Exchange may be empty too;
-- the busy marks; and the lists (own)
abbrev pub points_of : SlaveRecord → PointsView
points_of slave = record {
  state = slave.state;
  holder = slave.holder;
  out_len = output_length slave;
  empty = slave.cleared;
  busy = slave.busy;
  lists = slave.description.lists;
}

-- the limits of the parameters that it takes (IEC 61158-6-3, Set_Prm request)
abbrev pub limits_of : SlaveRecord → Limits
limits_of slave = record {
  ident = slave.description.ident;
  sync = slave.description.sync;
  freeze = slave.description.freeze;
  user_max = slave.description.user_max;
}

-- the inputs that a master sees: in freeze mode the frozen inputs (IEC 61158-6-3, Global_Control request)
abbrev pub shown_inputs : SlaveRecord → List ℕ
shown_inputs slave = if slave.freeze_mode then slave.frozen_inputs else slave.inputs

-- the master is the one that holds it (own)
abbrev pub is_held_by : ℕ → SlaveRecord → Bool
is_held_by master slave = option_map_or (λ holder. holder == master) slave.holder false

abbrev pub is_held : SlaveRecord → Bool
is_held slave = is_some slave.holder

-- the full time of its watchdog, None if the parameters have none (IEC 61158-6-3, Set_Prm request, WD_Fact_1 and WD_Fact_2)
abbrev pub full_time : SlaveRecord → Option ℕ
full_time slave = option_and_then (λ prm. prm.watchdog) slave.prm

-- the groups that it belongs to, a bit for each; none without parameters (IEC 61158-6-3, Set_Prm request, Group_Ident)
abbrev pub group_of : SlaveRecord → ℕ
group_of slave = option_map_or (λ prm. prm.group) slave.prm 0

-- what its diagnosis reports (IEC 61158-6-3, Slave_Diag response)
abbrev pub diag_facts : SlaveRecord → DiagFacts
diag_facts slave = record {
  state = slave.state;
  holder = slave.holder;
  ident = slave.description.ident;
  wd_on = is_some slave.left;
  freeze_mode = slave.freeze_mode;
  sync_mode = slave.sync_mode;
  diag = slave.diag;
}

-- a slave that no master holds: state, holder, its place, parameters, configuration, modes and watchdog are as at the start, outputs and
-- latest data are zeros of the length in force, and it isn't cleared; the shape, inputs and the frozen inputs, min TSDR, diagnosis with its faults,
-- busy marks and frame memories stay (own)
unfoldable pub released : SlaveRecord → SlaveRecord
released slave = record slave {
  state = WaitPrm;
  holder = None;
  since = 0;
  prm = None;
  cfg = None;
  outputs = zeros (output_length slave);
  latest = zeros (output_length slave);
  sync_mode = false;
  freeze_mode = false;
  cleared = false;
  left = None;
}

abbrev pub IsReleased : SlaveRecord → Type 0
IsReleased slave = released slave ≡ slave

-- min TSDR until a master sets another, in bit times (IEC 61158-6-3, Set_Prm request)
abbrev pub first_min_tsdr : ℕ
first_min_tsdr = 11

-- a slave starts released, in the shape of its first configuration, with inputs of zero, no diagnosis, no busy mark and nothing remembered of
-- the line's masters (own)
abbrev pub starting_slave : List ℕ → SlaveSpec → SlaveRecord
starting_slave masters description = record {
  description = description;
  state = WaitPrm;
  holder = None;
  since = 0;
  min_tsdr = first_min_tsdr;
  prm = None;
  cfg = None;
  shape = 0;
  inputs = zeros (inputs_of description 0);
  frozen_inputs = zeros (inputs_of description 0);
  outputs = zeros (outputs_of description 0);
  latest = zeros (outputs_of description 0);
  sync_mode = false;
  freeze_mode = false;
  cleared = false;
  left = None;
  diag = no_diagnosis;
  busy = no_marks;
  memory = no_memory masters;
}
