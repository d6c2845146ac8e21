use Rattle.std.proofs.Common.{◌≡◌}
use Rattle.entry_times.proofs.InOrder.{later_is_not_earlier}
use Rattle.entry_times.proofs.laws.a_later_place_has_no_earlier_time.Goals as goal

pub returns : goal.returns
returns c = later_is_not_earlier
