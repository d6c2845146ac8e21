use Rattle.serve_clock.proofs.Advancing.{none_lost}
use Rattle.serve_clock.proofs.laws.no_time_is_lost.Goals as goal

pub returns : goal.returns
returns c = none_lost
