use Rattle.explain_events.proofs.ways.answered.Goals as goal

pub returns-in-Repeat : goal.returns-in-Repeat
returns-in-Repeat c = rw (c.in-Repeat.is, ← c.context.view_is) c.way_of_repeat.ensures
