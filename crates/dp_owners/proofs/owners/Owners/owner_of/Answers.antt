use Rattle.std.proofs.Common.{below_more, arith}
use Rattle.dp_owners.proofs.owners.Owners.owner_of.Goals as goal

pub loop-master-preserved : goal.loop-master-preserved
loop-master-preserved g c lists threaded =
    below_more _ _ (c.loop-master.invariant lists threaded) (c.is_listed.ensures.not_listed lists threaded c.if-is_listed.false)

pub returns : goal.returns
returns g c lists threaded m small = c.loop-master.invariant lists threaded m (omega arith)
