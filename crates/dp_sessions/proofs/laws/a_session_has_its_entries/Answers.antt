use Rattle.dp_sessions.proofs.Tying.{tied}
use Rattle.dp_sessions.proofs.laws.a_session_has_its_entries.Goals as goal

pub returns-clause-fits : goal.returns-clause-fits
returns-clause-fits c = tied

pub returns-clause-rule : goal.returns-clause-rule
returns-clause-rule c line state rule i a turns streams before after end exchanged at =
    tied rule.content turns streams before after end exchanged (c.a_pass_has_its_entries.ensures line state rule i a after at)
