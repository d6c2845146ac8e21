use Rattle.dp_owners.specs.Threaded.{appended}
use Rattle.test_lines.proofs.card_lists.Table.give.Goals as goal

pub append-requires-clause-free : goal.append-requires-clause-free
append-requires-clause-free c =
    (c.self.invariant.0, (c.self.invariant.1, c.in-None.ensures c.self.invariant.0 c.self.invariant.1))

pub invariant_of-self : goal.invariant_of-self
invariant_of-self c =
    (appended c.self.invariant.0 c.args.player c.args.card, c.append.ensures.lists c.self.invariant.0 c.self.invariant.1 (c.in-None.ensures c.self.invariant.0 c.self.invariant.1))
