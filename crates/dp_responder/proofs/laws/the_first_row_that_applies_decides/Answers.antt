use Rattle.dp_responder.proofs.Refusals.{first_applies, passes}
use Rattle.dp_responder.proofs.laws.the_first_row_that_applies_decides.Goals as goal

pub returns-clause-first : goal.returns-clause-first
returns-clause-first c = first_applies

pub returns-clause-pass : goal.returns-clause-pass
returns-clause-pass c = passes
