-- detail
-- The names of faults in texts (own).
use Rattle.std.specs.Prelude.{codes, ℕ, List}
use Rattle.dp_cfg.specs.declared.fault.CfgFault.{CfgFault}
use Rattle.dp_cfg.specs.declared.fault.CfgFault.TheVariants as faults

abbrev pub cfg_fault_name : CfgFault → List ℕ
cfg_fault_name faults.Cut = codes "Cut"
cfg_fault_name faults.TooLong = codes "TooLong"
