use Rattle.serve_clock.proofs.Ticking.{all_ticks, all_units, most_units}
use Rattle.serve_clock.proofs.laws.the_ticks_are_the_time_that_passed.Goals as goal

pub returns-clause-ticks : goal.returns-clause-ticks
returns-clause-ticks c = all_ticks

pub returns-clause-units : goal.returns-clause-units
returns-clause-units c = all_units

pub returns-clause-most : goal.returns-clause-most
returns-clause-most c = most_units
