use Rattle.serve_clock.proofs.Advancing.{only_late}
use Rattle.serve_clock.proofs.laws.only_late_time_is_cut_off.Goals as goal

pub returns : goal.returns
returns c = only_late
