use Rattle.std.proofs.Common.{refl}
use Rattle.dp_sessions.proofs.RecordingLines.{gains_none}
use Rattle.dp_sessions.proofs.operator_line.answer_line.Goals as goal

pub returns-in-Err-clause-recorded : goal.returns-in-Err-clause-recorded
returns-in-Err-clause-recorded g c = gains_none (g.G.Gate.recorded c.args.gate.now c.args.pass.now.line) c.args.pass.now.view c.args.pass.now.view refl
