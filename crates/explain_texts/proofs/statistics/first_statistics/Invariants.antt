use Rattle.std.proofs.Common.{◌≡◌, map}
use Rattle.std.specs.List.{range_with_len}
use Rattle.explain_texts.specs.StationCounts.{first_counts}
use Rattle.explain_texts.proofs.statistics.first_statistics.Given as goal

abbrev pub invariant-loop-address : goal.invariant-loop-address
invariant-loop-address l = l.statistics.items ≡ map first_counts (range_with_len 0 l.address)
