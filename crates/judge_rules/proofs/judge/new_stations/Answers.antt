use Rattle.judge_rules.proofs.Walks.{one_more_station}
use Rattle.judge_rules.proofs.judge.new_stations.Goals as goal

pub loop-address-preserved : goal.loop-address-preserved
loop-address-preserved c =
    one_more_station c.loop-address.stations.items c.push.new.self.items c.loop-address._address c.new.result c.loop-address.invariant c.new.ensures c.in_ok-push.ensures.items
