use Rattle.serve_clock.proofs.Rounds.{not_due_before}
use Rattle.serve_clock.proofs.laws.nothing_is_due_before.Goals as goal

pub returns : goal.returns
returns c = not_due_before
