use Rattle.std.proofs.Common.{◌≡◌, [], map}
use Rattle.std.specs.List.{range_with_len}
use Rattle.judge_rules.specs.Stations.{station_of}
use Rattle.judge_rules.proofs.judge.new_stations.Given as goal

abbrev pub invariant-loop-address : goal.invariant-loop-address
invariant-loop-address l = l.stations.items ≡ map (λ address. station_of address []) (range_with_len 0 l._address)
