use Rattle.std.proofs.Common.{eqb, ◌∙◌}
use Rattle.dp_line.proofs.Restorable.{any_of}
use Rattle.dp_line.proofs.line_state.restoring.has_place.Goals as goal

pub returns : goal.returns
returns c = c.any_locked_at.ensures ∙ any_of (λ slave. eqb slave.since c.args.place) c.args.slaves.now
