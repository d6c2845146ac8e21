use Rattle.std.proofs.Output.{has_written_of_eq}
use Rattle.explain_events.proofs.Splitting.{differences_are_joined}
use Rattle.explain_events.proofs.slots.write_compared.Goals as goal

pub returns : goal.returns
returns g c = λ plain ok. has_written_of_eq _ _ _ _ _ (differences_are_joined c.args.sent.now c.args.own.now) (c.write_differences.ensures plain ok)
