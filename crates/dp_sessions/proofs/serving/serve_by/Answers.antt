use Rattle.dp_sessions.proofs.serving.serve_by.Goals as goal

pub returns-clause-recorded : goal.returns-clause-recorded
returns-clause-recorded g c = (c.serve_session-session.result, c.end.ensures, c.serve_session-session.ensures.session, c.serve_session-session.ensures.recorded)
