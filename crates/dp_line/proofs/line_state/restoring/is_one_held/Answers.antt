use Rattle.std.proofs.Common.{◌∙◌}
use Rattle.dp_slave.specs.SlaveRecord.{is_held}
use Rattle.dp_line.proofs.Restorable.{any_of}
use Rattle.dp_line.proofs.line_state.restoring.is_one_held.Goals as goal

pub returns : goal.returns
returns c = c.any_held.ensures ∙ any_of is_held c.args.slaves.now
