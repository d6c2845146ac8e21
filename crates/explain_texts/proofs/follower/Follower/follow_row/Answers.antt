use Rattle.std.proofs.Common.{◌+◌, ap, ◌∙◌}
use Rattle.explain_texts.specs.Following.{known_at}
use Rattle.explain_texts.proofs.FollowedRow.{IsEntry, entry_is, known_is, reported_is, stored_is}
use Rattle.explain_texts.proofs.follower.Follower.follow_row.Goals as goal

pub returns-clause-known : goal.returns-clause-known
returns-clause-known g c =
    let s = c.self.inside in
    let entry : IsEntry c.args.self.now c.args.row.now c.in-Ok.event (known_at s.history s.before.world) c.take_row.new.state.world (c.from.result + 1) c.set_halt.new.answer.outcome =
    entry_is c.args.self.now c.args.row.now c.in-Ok.event s.history s.before.world s.after.world c.take_row.new.state.world s.fault c.take_row.new.answer c.set_halt.new.answer (c.from.result + 1)
    c.self.view_is c.in_default.is c.self.invariant c.in-Ok.ensures c.set_halt.ensures (ap (λ n. n + 1) (c.from.ensures ∙ c.count.ensures)) in
    known_is c.args.self.now c.args.row.now c.in-Ok.event s.history c.take_event.new.self s.before.world c.take_row.new.state.world c.take_into.new.self.world s.fault (c.from.result + 1) c.set_halt.new.answer.outcome
    entry c.in_default.is c.take_event.ensures c.take_into.ensures.world

pub returns-clause-reported : goal.returns-clause-reported
returns-clause-reported g c =
    let s = c.self.inside in
    let entry : IsEntry c.args.self.now c.args.row.now c.in-Ok.event (known_at s.history s.before.world) c.take_row.new.state.world (c.from.result + 1) c.set_halt.new.answer.outcome =
    entry_is c.args.self.now c.args.row.now c.in-Ok.event s.history s.before.world s.after.world c.take_row.new.state.world s.fault c.take_row.new.answer c.set_halt.new.answer (c.from.result + 1)
    c.self.view_is c.in_default.is c.self.invariant c.in-Ok.ensures c.set_halt.ensures (ap (λ n. n + 1) (c.from.ensures ∙ c.count.ensures)) in
    reported_is g.T.TakesEntries.takes c.args.choice.now c.args.self.now c.args.row.now c.in-Ok.event (known_at s.history s.before.world) c.take_row.new.state.world (c.from.result + 1) c.set_halt.new.answer.outcome
    c.args.receiver.now c.report_entry-reported.new.receiver c.report_entry-reported.result c.push-stored.result c.first_fault.result
    entry c.report_entry-reported.ensures c.first_fault.ensures

pub returns-clause-stored : goal.returns-clause-stored
returns-clause-stored g c =
    let s = c.self.inside in
    let entry : IsEntry c.args.self.now c.args.row.now c.in-Ok.event (known_at s.history s.before.world) c.take_row.new.state.world (c.from.result + 1) c.set_halt.new.answer.outcome =
    entry_is c.args.self.now c.args.row.now c.in-Ok.event s.history s.before.world s.after.world c.take_row.new.state.world s.fault c.take_row.new.answer c.set_halt.new.answer (c.from.result + 1)
    c.self.view_is c.in_default.is c.self.invariant c.in-Ok.ensures c.set_halt.ensures (ap (λ n. n + 1) (c.from.ensures ∙ c.count.ensures)) in
    stored_is c.args.self.now c.args.row.now c.in-Ok.event (known_at s.history s.before.world) c.take_row.new.state.world (c.from.result + 1) c.set_halt.new.answer.outcome
    c.args.ended.now c.push-stored.new.self c.report_entry-reported.result c.push-stored.result c.first_fault.result
    entry c.push-stored.ensures c.first_fault.ensures
