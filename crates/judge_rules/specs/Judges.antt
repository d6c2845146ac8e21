-- detail
-- What contracts see of the judge of a master: how many retries are allowed, and the entries of the master so far, in their order.
use Rattle.std.specs.Prelude.{ℕ, List, map}
use Rattle.std.specs.List.{range_with_len}
use Rattle.judge_rules.specs.declared.entry.Entry.{Entry}
use Rattle.judge_rules.specs.declared.station.Station.{Station}
use Rattle.judge_rules.specs.Stations.{station_of}

pub record JudgeView : Type 0 where
  pub retries : ℕ
  pub past : List Entry

-- what these entries left of each station, at its address
unfoldable pub all_stations : List Entry → List Station
all_stations past = map (λ address. station_of address past) (range_with_len 0 256)
