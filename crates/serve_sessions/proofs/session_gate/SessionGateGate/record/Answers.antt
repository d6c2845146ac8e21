use Rattle.serve_sessions.proofs.Naming.{by_recorder}
use Rattle.serve_sessions.proofs.session_gate.SessionGateGate.record.Goals as goal

pub returns-in-Ok : goal.returns-in-Ok
returns-in-Ok g c = by_recorder g.C.RecordEntries.recorded c.in-Some-get.recorder.now c.args.line c.args.place c.in-Ok.ensures.row
