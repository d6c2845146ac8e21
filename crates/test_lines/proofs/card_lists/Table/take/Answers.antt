use Rattle.dp_owners.specs.Threaded.{unlinked}
use Rattle.test_lines.proofs.card_lists.Table.take.Goals as goal

pub unlink-requires-clause-listed : goal.unlink-requires-clause-listed
unlink-requires-clause-listed c =
    (c.self.invariant.0, (c.self.invariant.1, (c.in-Some.ensures c.self.invariant.0 c.self.invariant.1).1))

pub unlink-requires-clause-master : goal.unlink-requires-clause-master
unlink-requires-clause-master c = (c.in-Some.ensures c.self.invariant.0 c.self.invariant.1).0

pub invariant_of-self : goal.invariant_of-self
invariant_of-self c =
    (unlinked c.self.invariant.0 c.in-Some.player c.args.card, c.unlink.ensures.lists c.self.invariant.0 c.self.invariant.1 (c.in-Some.ensures c.self.invariant.0 c.self.invariant.1).1)
