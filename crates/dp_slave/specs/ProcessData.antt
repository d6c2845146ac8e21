-- promise
-- The process data of a slave.
use Rattle.std.specs.Prelude.{ℕ, Bool, List, Option}
use Rattle.dp_sap.specs.declared.state.State.{State}
use Rattle.dp_prm.specs.declared.prm.Prm.{Prm}
use Rattle.dp_diag.specs.declared.diag.Diag.{Diag}
use Rattle.dp_slave.specs.SlaveRecord.{SlaveRecord}

-- all that services and operators change of a slave, except the place of its lock, its busy marks and its frame memories (own)
pub record ProcessData : Type 0 where
  pub state : State
  pub holder : Option ℕ
  pub min_tsdr : ℕ
  pub prm : Option Prm
  pub cfg : Option ℕ
  pub shape : ℕ
  pub inputs : List ℕ
  pub frozen_inputs : List ℕ
  pub outputs : List ℕ
  pub latest : List ℕ
  pub sync_mode : Bool
  pub freeze_mode : Bool
  pub cleared : Bool
  pub left : Option ℕ
  pub diag : Diag

abbrev pub process_data : SlaveRecord → ProcessData
process_data slave = record {
  state = slave.state;
  holder = slave.holder;
  min_tsdr = slave.min_tsdr;
  prm = slave.prm;
  cfg = slave.cfg;
  shape = slave.shape;
  inputs = slave.inputs;
  frozen_inputs = slave.frozen_inputs;
  outputs = slave.outputs;
  latest = slave.latest;
  sync_mode = slave.sync_mode;
  freeze_mode = slave.freeze_mode;
  cleared = slave.cleared;
  left = slave.left;
  diag = slave.diag;
}
