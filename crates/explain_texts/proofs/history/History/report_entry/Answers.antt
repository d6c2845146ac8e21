use Rattle.std.proofs.Common.{sym, ◌∙◌}
use Rattle.dp_line.specs.World.{description_of}
use Rattle.explain_texts.proofs.Knowing.{chosen_is}
use Rattle.explain_texts.proofs.history.History.report_entry.Goals as goal

pub returns : goal.returns
returns g c =
    chosen_is g.T.TakesEntries.takes c.args.choice.now (description_of c.args.self.now.line.now) c.args.taken.now.before.now.world c.as_slice.result.now c.args.self.now.notes.items c.as_slice-2.result.now c.args.self.now.releases.items c.args.self.now.time
    c.args.taken.now.after.now.world c.args.taken.now.place c.args.taken.now.event.now c.args.outcome.now c.args.receiver.now c.take_entry.new.self c.take_entry.result
    c.as_slice.ensures.value c.as_slice-2.ensures.value (sym c.is_chosen.ensures ∙ c.if-not-is_chosen.false) c.take_entry.ensures
