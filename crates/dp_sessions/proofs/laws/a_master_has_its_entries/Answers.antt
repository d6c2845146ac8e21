use Rattle.dp_sessions.proofs.Tying.{tied_master}
use Rattle.dp_sessions.proofs.laws.a_master_has_its_entries.Goals as goal

pub returns-clause-fits : goal.returns-clause-fits
returns-clause-fits c = tied_master

pub returns-clause-rule : goal.returns-clause-rule
returns-clause-rule c line state rule i a masters turns streams before after pass end accepted at =
    tied_master rule.content masters turns streams before after pass end accepted (c.a_pass_has_its_entries.ensures line state rule i a pass at)
