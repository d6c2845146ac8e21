use Rattle.dp_slave.proofs.Lives.{shape_changed}
use Rattle.dp_slave.proofs.laws.the_shape_changes_by_chk_cfg_alone.Goals as goal

pub returns : goal.returns
returns c = shape_changed
