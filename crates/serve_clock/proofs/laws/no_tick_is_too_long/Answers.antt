use Rattle.serve_clock.proofs.Advancing.{none_too_long}
use Rattle.serve_clock.proofs.laws.no_tick_is_too_long.Goals as goal

pub returns : goal.returns
returns c = none_too_long
