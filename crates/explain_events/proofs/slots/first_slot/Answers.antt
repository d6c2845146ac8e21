use Rattle.std.proofs.Common.{ap}
use Rattle.std.specs.Prelude.{is_some}
use Rattle.explain_events.proofs.Splitting.{is_whole_more, slots_in_more}
use Rattle.explain_events.proofs.slots.first_slot.Goals as goal

pub returns-in-Some-clause-whole : goal.returns-in-Some-clause-whole
returns-in-Some-clause-whole c = is_whole_more c.args.octets.now c.in-Some.slot.now c.in-Some.others.now c.in-Some.ensures.slots

pub returns-in-Some-clause-slots : goal.returns-in-Some-clause-slots
returns-in-Some-clause-slots c = slots_in_more c.args.octets.now c.in-Some.slot.now c.in-Some.others.now c.in-Some.ensures.slots

pub returns-in-None-clause-whole : goal.returns-in-None-clause-whole
returns-in-None-clause-whole c = ap is_some (c.in-None.ensures.cut c.requires)
