-- promise
-- What a request that passed all rows of the verdict does to a slave, and what it answers (IEC 61158-6-3, services of a slave).
use Rattle.std.specs.Prelude.{ℕ, ◌==◌, Bool, false, if◌then◌else◌, List, [], length, slice_index, Option, Some, None}
use Rattle.dp_telegram.specs.FunctionCode.{is_set}
use Rattle.dp_sap.specs.AccessTable.{same_point, data_exchange, rd_inp, rd_outp, global_control, get_cfg, slave_diag, set_prm, chk_cfg}
use Rattle.dp_prm.specs.declared.prm.PrmVerdict.{PrmVerdict}
use Rattle.dp_prm.specs.declared.prm.PrmVerdict.TheVariants as prm
use Rattle.dp_prm.specs.Meaning.{meaning_of}
use Rattle.dp_cfg.specs.Choosing.{chosen}
use Rattle.dp_diag.specs.Diagnosis.{is_due_high}
use Rattle.dp_diag.specs.DiagnosisText.{diagnosis_text}
use Rattle.dp_slave.specs.SlaveRecord.{SlaveRecord, configuration, configurations, diag_facts, limits_of, output_length, shown_inputs}
use Rattle.dp_slave.specs.Acts.{Act, locks, faults, unlocks, sets_min_tsdr, configures, misconfigures, exchanges, exchanges_none, sends_diagnosis, is_read, is_controlled, Control}

-- Set_Prm by the meaning of its octets (IEC 61158-6-3, Set_Prm request)
abbrev pub prm_act : ℕ → ℕ → PrmVerdict → Act
prm_act sender place (prm.MinTsdr octet) = sets_min_tsdr sender octet
prm_act sender place prm.Unlock = unlocks
prm_act sender place (prm.Lock parameters) = locks sender place parameters
prm_act sender place (prm.Fault not_supported) = faults not_supported

abbrev pub set_prm_act : SlaveRecord → ℕ → ℕ → List ℕ → Act
set_prm_act slave sender place octets = prm_act sender place (meaning_of octets (limits_of slave))

-- Chk_Cfg is good if its octets are those of a configuration of the slave; of several equal ones the first counts (IEC 61158-6-3, Chk_Cfg
-- request; own in detail)
abbrev pub cfg_act : Option ℕ → Act
cfg_act (Some number) = configures number
cfg_act None = misconfigures

abbrev pub chk_cfg_act : SlaveRecord → List ℕ → Act
chk_cfg_act slave octets = cfg_act (chosen (configurations slave.description) octets)

-- Data_Exchange of the whole length; any other one that comes is the empty one to a cleared slave, because the verdict refuses all other lengths
-- (IEC 61158-6-3, Data_Exchange request; own in detail)
abbrev pub exchange_act : SlaveRecord → List ℕ → Act
exchange_act slave octets = if length octets == output_length slave then exchanges octets else exchanges_none

-- the octets of a Global_Control (IEC 61158-6-3, Global_Control request): octet 1 has bit 1 Clear_Data, 2 Unfreeze, 3 Freeze, 4 Unsync,
-- 5 Sync, and its other bits are ignored (own); octet 2 is Group_Select
abbrev pub control_of : List ℕ → Control
control_of octets = record {
  clear_data = is_set 1 (slice_index octets 0);
  unfreeze = is_set 2 (slice_index octets 0);
  freeze = is_set 3 (slice_index octets 0);
  unsync = is_set 4 (slice_index octets 0);
  sync = is_set 5 (slice_index octets 0);
}

-- the act of a request, by the point that its DSAP names: RD_Inp, RD_Outp and Get_Cfg only read; a point outside the table is off, so no request
-- to it is done (own)
abbrev pub service_act : SlaveRecord → ℕ → ℕ → Option ℕ → List ℕ → Act
service_act slave sender place point octets =
    if same_point point data_exchange then exchange_act slave octets
    else if same_point point global_control then is_controlled (control_of octets)
    else if same_point point slave_diag then sends_diagnosis sender
    else if same_point point set_prm then set_prm_act slave sender place octets
    else if same_point point chk_cfg then chk_cfg_act slave octets
    else is_read

-- the data of a reply, and whether they are of high priority (IEC 61158-4-3, function code of a response)
pub record ServiceAnswer : Type 0 where
  pub high : Bool
  pub octets : List ℕ

abbrev pub low : List ℕ → ServiceAnswer
low octets = record { high = false; octets = octets }

-- the answer by the point, from the slave before the request: Data_Exchange with the shown inputs, of high priority while a diagnosis is due;
-- the reading services with what they read; Set_Prm and Chk_Cfg without data. A Global_Control is never answered
abbrev pub service_answer : SlaveRecord → Option ℕ → ServiceAnswer
service_answer slave point =
    if same_point point data_exchange then record { high = is_due_high slave.diag; octets = shown_inputs slave }
    else if same_point point rd_inp then low (shown_inputs slave)
    else if same_point point rd_outp then low slave.outputs
    else if same_point point get_cfg then low (configuration slave.description slave.shape)
    else if same_point point slave_diag then low (diagnosis_text (diag_facts slave))
    else low []
