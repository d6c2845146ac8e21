-- detail
-- A slave to which acts can have led, as a test (own). It looks at fields that a sound slave leaves open.
use Rattle.std.specs.Prelude.{ℕ, zero, suc, ◌/◌, ◌%◌, ◌==◌, nat_eq, nat_le, Bool, true, false, not, ◌&&◌, ◌||◌, List, [], ◌∷◌, length, Option, Some, is_some}
use Rattle.std.specs.List.{list_any}
use Rattle.std.specs.Option.{option_eq, option_map_or}
use Rattle.dp_sap.specs.AccessTable.{may_lock}
use Rattle.dp_sap.specs.States.{is_in_wait_prm}
use Rattle.dp_prm.specs.declared.prm.Prm.{Prm}
use Rattle.dp_cfg.specs.Choosing.{chosen, same_octets}
use Rattle.dp_cfg.specs.Reading.{input_octets, output_octets}
use Rattle.dp_diag.specs.declared.diag.Diag.{Diag}
use Rattle.dp_slave.specs.declared.description.SlaveSpec.{SlaveSpec}
use Rattle.dp_slave.specs.SlaveRecord.{SlaveRecord, configuration, configurations, full_time}
use Rattle.dp_slave.specs.Acts.{Act, locks, faults, configures}
use Rattle.dp_slave.specs.Fields.{acted, freeze_is_asked, sync_is_asked}
use Rattle.dp_slave.specs.Sound.{are_zero}

-- the time is this factor times another one, which is at most 255
abbrev pub is_factor : ℕ → ℕ → Bool
is_factor units factor = units % factor == 0 && nat_le (units / factor) 255

-- one of the factors from 1 to this one is such a factor
unfoldable pub has_factor : ℕ → ℕ → Bool
has_factor units zero = false
has_factor units (suc most) = is_factor units (suc most) || has_factor units most

-- a watchdog time: the product of two octets that are not 0 (IEC 61158-6-3, Set_Prm request, WD_Fact_1 and WD_Fact_2)
abbrev pub is_watchdog_time : ℕ → Bool
is_watchdog_time units = nat_le 1 units && has_factor units 255

-- a slave of this description takes the parameters: their watchdog time is one, they ask for Sync and Freeze only if the slave has them, and they
-- have at most as many user parameters as it takes (IEC 61158-6-3, Set_Prm request)
abbrev pub takes : SlaveSpec → Prm → Bool
takes description prm =
    option_map_or is_watchdog_time prm.watchdog true
    && (not prm.sync_req || description.sync)
    && (not prm.freeze_req || description.freeze)
    && nat_le (length prm.user.items) description.user_max

-- Chk_Cfg with the octets of the configuration of this number chooses this number: no configuration before it is equal to it
abbrev pub is_choosable : SlaveSpec → ℕ → Bool
is_choosable description number = option_eq nat_eq (chosen (configurations description) (configuration description number)) (Some number)

-- ---- what the configurations of a slave can have

-- one of them has this number of inputs, or of outputs
abbrev pub has_inputs : SlaveSpec → ℕ → Bool
has_inputs description count = list_any (λ octets. input_octets octets == count) (configurations description)

abbrev pub has_outputs : SlaveSpec → ℕ → Bool
has_outputs description count = list_any (λ octets. output_octets octets == count) (configurations description)

-- these are the octets of one of them
abbrev pub has_configuration : SlaveSpec → List ℕ → Bool
has_configuration description octets = is_some (chosen (configurations description) octets)

-- ---- the conditions

-- its holder is a master that may lock it
abbrev pub has_listed_holder : SlaveRecord → Bool
has_listed_holder slave = option_map_or (may_lock slave.description.lists) slave.holder true

-- it takes the parameters that it has
abbrev pub has_taken_prm : SlaveRecord → Bool
has_taken_prm slave = option_map_or (takes slave.description) slave.prm true

-- time is left: at least one unit, and at most the full time of its watchdog
abbrev pub is_left_of : ℕ → Option ℕ → Bool
is_left_of left full = nat_le 1 left && option_map_or (nat_le left) full false

abbrev pub has_time_left : SlaveRecord → Bool
has_time_left slave = option_map_or (λ left. is_left_of left (full_time slave)) slave.left true

-- min TSDR is not 0, which never sets it
abbrev pub has_min_tsdr : SlaveRecord → Bool
has_min_tsdr slave = nat_le 1 slave.min_tsdr

-- it is in sync mode or in freeze mode only if its parameters asked for Sync or for Freeze
abbrev pub has_asked_modes : SlaveRecord → Bool
has_asked_modes slave = (not slave.sync_mode || sync_is_asked slave) && (not slave.freeze_mode || freeze_is_asked slave)

-- outside sync mode it has put out the data that came last
abbrev pub has_put_out : SlaveRecord → Bool
has_put_out slave = slave.sync_mode || same_octets slave.outputs slave.latest

-- the frozen inputs of a slave without Freeze are zero: nothing has ever frozen its inputs
abbrev pub has_sound_frozen_inputs : SlaveRecord → Bool
has_sound_frozen_inputs slave = slave.description.freeze || are_zero slave.frozen_inputs

-- Prm_Fault or Cfg_Fault only in Wait_Prm, because only a lock leaves this state and it clears both; never both; Not_Supported only with Prm_Fault,
-- and only if the slave lacks Sync or Freeze
abbrev pub has_faults : Diag → Bool
has_faults diag = diag.prm_fault || diag.cfg_fault

abbrev pub has_unsupported : SlaveRecord → Bool
has_unsupported slave = slave.diag.prm_fault && not (slave.description.sync && slave.description.freeze)

abbrev pub has_sound_faults : SlaveRecord → Bool
has_sound_faults slave =
    (is_in_wait_prm slave.state || not (has_faults slave.diag))
    && not (slave.diag.prm_fault && slave.diag.cfg_fault)
    && (not slave.diag.not_supported || has_unsupported slave)

-- its shape is one that a master can choose
abbrev pub has_choosable_shape : SlaveRecord → Bool
has_choosable_shape slave = is_choosable slave.description slave.shape

-- all of what concerns the hold of a slave, and its data
abbrev pub has_reachable_hold : SlaveRecord → Bool
has_reachable_hold slave = has_listed_holder slave && has_taken_prm slave && has_time_left slave && has_min_tsdr slave

abbrev pub has_reachable_data : SlaveRecord → Bool
has_reachable_data slave = has_asked_modes slave && has_put_out slave && has_sound_frozen_inputs slave

abbrev pub is_reachable : SlaveRecord → Bool
is_reachable slave = has_reachable_hold slave && has_reachable_data slave && has_sound_faults slave && has_choosable_shape slave

-- ---- the acts

-- the slave can meet the act, by what comes with it: a lock is by a master that may lock it, with parameters that it takes; a fault is for
-- something that is not supported only if the slave lacks Sync or Freeze; a configuration is one that a master can choose
abbrev pub suits : SlaveRecord → Act → Bool
suits slave (locks sender place prm) = may_lock slave.description.lists sender && takes slave.description prm
suits slave (faults not_supported) = not not_supported || not (slave.description.sync && slave.description.freeze)
suits slave (configures number) = is_choosable slave.description number
suits slave act = true

abbrev pub all_suit : SlaveRecord → List Act → Bool
all_suit slave [] = true
all_suit slave (act ∷ acts) = suits slave act && all_suit (acted slave act) acts
