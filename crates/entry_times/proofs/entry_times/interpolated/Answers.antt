use Rattle.std.proofs.Common.{◌≡◌, rules, arith}
use Rattle.entry_times.specs.PlaceTimes.{interpolated}
use Rattle.entry_times.proofs.entry_times.interpolated.Goals as goal

pub returns : goal.returns
unfolding interpolated
returns c = search rules
