use Rattle.std.proofs.Common.{arith}
use Rattle.judge_rules.proofs.Walks.{found_at}
use Rattle.judge_rules.proofs.judge.station_in.Goals as goal

pub returns : goal.returns
returns c past are =
    found_at past c.args.stations.now c.args.address c.from.result c.index-stations-from.result _ c.from.ensures (omega arith) c.index-stations-from.is are
