use Rattle.serve_clock.proofs.Rounds.{due_behind}
use Rattle.serve_clock.proofs.laws.all_is_due_afterwards.Goals as goal

pub returns : goal.returns
returns c = due_behind
