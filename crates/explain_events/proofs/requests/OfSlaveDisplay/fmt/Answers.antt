use Rattle.std.proofs.Common.{◌≡◌, Some}
use Rattle.std.proofs.Output.{has_written_of_eq}
use Rattle.dp_line.specs.World.{described_at, description_of}
use Rattle.explain_events.specs.Shown.{shown, shown_at}
use Rattle.explain_events.specs.EventContexts.{AskedView, EventContextView}
use Rattle.explain_events.proofs.Asking.{slave_reported}
use Rattle.explain_events.proofs.requests.OfSlaveDisplay.fmt.Goals as goal

pub returns-clause-writes : goal.returns-clause-writes
returns-clause-writes g c = λ plain ok.
    let s = c.args.self.now in
    let known = c.context.inside in
    let request = c.asked.inside in
    let context : EventContextView = record { description = description_of known.line.now; world = known.before.now.world; notes = known.notes.now; releases = known.releases.now; time = known.time } in
    let asked : AskedView = record { master = request.master; octets = request.octets.now; telegram = request.telegram.now; parts = request.parts } in
    let found : Some c.in-Some.description.now ≡ described_at context.description.slaves s.address = rw (← c.as_slice.ensures.value) c.in-Some.ensures in
    let here : Some (shown c.in-Some-slave_at.slave.now) ≡ shown_at context.world s.address = c.in-Some-slave_at.ensures in
    has_written_of_eq _ _ _ _ _
    (rw (← c.context.view_is, ← c.asked.view_is, c.release_of.ensures)
    (slave_reported context asked s.address s.silent s.rule c.in-Some.description.now (shown c.in-Some-slave_at.slave.now) found here))
    (c.write.ensures.writes plain ok)
