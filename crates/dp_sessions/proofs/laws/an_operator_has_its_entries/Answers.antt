use Rattle.dp_sessions.proofs.TyingOperators.{tied_operator}
use Rattle.dp_sessions.proofs.laws.an_operator_has_its_entries.Goals as goal

pub returns-clause-fits : goal.returns-clause-fits
returns-clause-fits c = tied_operator

pub returns-clause-rule : goal.returns-clause-rule
returns-clause-rule c line state rule i a driven turns streams before after end operated at =
    tied_operator rule.content driven turns streams before after end operated (c.a_pass_has_its_entries.ensures line state rule i a after at)
