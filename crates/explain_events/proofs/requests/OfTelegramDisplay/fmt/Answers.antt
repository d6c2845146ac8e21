use Rattle.std.proofs.Output.{has_written_of_eq}
use Rattle.explain_events.proofs.Asking.{parts_reported}
use Rattle.explain_events.proofs.requests.OfTelegramDisplay.fmt.Goals as goal

pub returns-clause-writes : goal.returns-clause-writes
returns-clause-writes g c =
    let s = c.args.self.now in
    λ plain ok. has_written_of_eq _ _ _ _ _
    (parts_reported s.context.now s.master s.octets.now s.silent s.rule s.telegram.now c.in-Some.parts c.destination.result c.destination.ensures c.in-Some.ensures)
    (c.write.ensures.writes plain ok)
