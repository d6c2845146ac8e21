use Rattle.dp_slave.proofs.Reaches.{reachable_act, reachable_after, reachable_start}
use Rattle.dp_slave.proofs.laws.a_slave_stays_reachable.Goals as goal

pub returns-clause-start : goal.returns-clause-start
returns-clause-start c = reachable_start

pub returns-clause-act : goal.returns-clause-act
returns-clause-act c = reachable_act

pub returns-clause-acts : goal.returns-clause-acts
returns-clause-acts c masters description acts some fit suit = reachable_after acts _ (reachable_start masters description some) fit suit
