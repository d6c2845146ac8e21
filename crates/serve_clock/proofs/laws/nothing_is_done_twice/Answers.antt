use Rattle.serve_clock.proofs.Taking.{none_twice}
use Rattle.serve_clock.proofs.laws.nothing_is_done_twice.Goals as goal

pub returns : goal.returns
returns c = none_twice
