use Rattle.dp_sessions.proofs.operator.serve_operator_at.Goals as goal

pub returns-clause-recorded : goal.returns-clause-recorded
returns-clause-recorded g c = (c.serve_operator_session-session.result, c.end.ensures, c.serve_operator_session-session.ensures.session, c.serve_operator_session-session.ensures.recorded)
