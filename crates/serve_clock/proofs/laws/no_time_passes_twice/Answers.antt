use Rattle.serve_clock.proofs.Advancing.{none_twice}
use Rattle.serve_clock.proofs.laws.no_time_passes_twice.Goals as goal

pub returns : goal.returns
returns c = none_twice
