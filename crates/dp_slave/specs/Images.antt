-- detail
-- A slave as data, from which a slave goes on (own).
use Rattle.std.specs.Prelude.{ℕ, ◌==◌, ◌&&◌, Bool, if◌then◌else◌, List, length, Option, Some, None}
use Rattle.dp_owners.specs.Chain.{no_links}
use Rattle.dp_responder.specs.Memory.{MasterMemory}
use Rattle.dp_prm.specs.declared.prm.Prm.{Prm}
use Rattle.dp_diag.specs.declared.diag.Diag.{Diag}
use Rattle.dp_slave.specs.declared.description.SlaveSpec.{SlaveSpec}
use Rattle.dp_slave.specs.declared.image.HoldState.{HoldState}
use Rattle.dp_slave.specs.declared.image.Settings.{Settings}
use Rattle.dp_slave.specs.declared.image.DataPair.{DataPair}
use Rattle.dp_slave.specs.declared.image.SlaveImage.{SlaveImage}
use Rattle.dp_slave.specs.SlaveRecord.{SlaveRecord, inputs_of, outputs_of}
use Rattle.dp_slave.specs.SlaveParts.{SlaveParts}

-- the slave of a description that has these parts
abbrev pub slave_with : SlaveSpec → HoldState → Settings → Option Prm → DataPair → DataPair → Diag → List MasterMemory → SlaveRecord
slave_with description hold_state settings prm inputs outputs diag memory = record {
  description = description;
  state = hold_state.state;
  holder = hold_state.holder;
  since = hold_state.since;
  min_tsdr = settings.min_tsdr;
  prm = prm;
  cfg = settings.cfg;
  shape = settings.shape;
  inputs = inputs.first.items;
  frozen_inputs = inputs.second.items;
  outputs = outputs.first.items;
  latest = outputs.second.items;
  sync_mode = settings.sync_mode;
  freeze_mode = settings.freeze_mode;
  cleared = settings.cleared;
  left = hold_state.left;
  diag = diag;
  busy = hold_state.busy;
  memory = memory;
}

-- the slave of a description that is as an image says
abbrev pub slave_of_image : SlaveSpec → SlaveImage → SlaveRecord
slave_of_image description image =
    slave_with description image.hold_state image.settings image.prm image.inputs image.outputs image.diag image.memory

-- both have this number of octets
abbrev pub are_long : DataPair → ℕ → Bool
are_long pair count = length pair.first.items == count && length pair.second.items == count

-- the data are as long as the shape of the image says
abbrev pub has_lengths : SlaveSpec → SlaveImage → Bool
has_lengths description image =
    are_long image.inputs (inputs_of description image.settings.shape) && are_long image.outputs (outputs_of description image.settings.shape)

-- the slave of an image, which is in no list; none if the lengths of the image are wrong
abbrev pub restored_slave : SlaveSpec → SlaveImage → Option SlaveParts
restored_slave description image =
    if has_lengths description image then Some (record { slave = slave_of_image description image; links = no_links }) else None
