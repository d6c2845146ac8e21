use Rattle.std.proofs.Common.{arith, map, length, ◌-◌}
use Rattle.dp_owners.proofs.Walks.{underway_on, room_more}
use Rattle.dp_owners.proofs.owners.Owners.list.Goals as goal

pub next-at-requires-clause-walk : goal.next-at-requires-clause-walk
next-at-requires-clause-walk g c =
    let under = c.loop-step.invariant.underway c.requires.threaded.0 c.requires.threaded.1 in
    (c.loop-step.list.items, under.rest, under.walk)

pub loop-step-preserved : goal.loop-step-preserved
loop-step-preserved g c = record {
  underway = λ lists threaded. underway_on (map g.T.Linked.links_of c.args.records.now) (lists c.args.master) c.loop-step.list.items c.push_some.new.positions.items (length c.args.records.now - c.loop-step._step) _ c.loop-step.cursor c.next-at.new.self c.next-at.result
      (c.loop-step.invariant.underway lists threaded) (omega arith) c.push_some.ensures c.next-at.ensures;
  room = room_more c.loop-step.list.items c.push_some.new.positions.items c.next-at.result c.loop-step._step c.push_some.ensures c.loop-step.invariant.room;
}
