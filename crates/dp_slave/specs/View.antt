-- detail
-- A slave as it is shown (own).
use Rattle.dp_slave.specs.declared.view.SlaveView.{SlaveView}
use Rattle.dp_slave.specs.SlaveRecord.{SlaveRecord, shown_inputs}

abbrev pub view_of : SlaveRecord → SlaveView
view_of slave = record {
  address = slave.description.address;
  state = slave.state;
  holder = slave.holder;
  since = slave.since;
  min_tsdr = slave.min_tsdr;
  prm = slave.prm;
  cfg = slave.cfg;
  shape = slave.shape;
  inputs = record { items = slave.inputs };
  shown = record { items = shown_inputs slave };
  outputs = record { items = slave.outputs };
  latest = record { items = slave.latest };
  sync_mode = slave.sync_mode;
  freeze_mode = slave.freeze_mode;
  cleared = slave.cleared;
  left = slave.left;
  diag = slave.diag;
}
