use Rattle.explain_texts.proofs.Following.{reported_by_rows, verdict_of_rows}
use Rattle.explain_texts.proofs.laws.a_text_is_explained_by_its_rows.Goals as goal

pub returns-clause-text : goal.returns-clause-text
returns-clause-text c = reported_by_rows

pub returns-clause-verdict : goal.returns-clause-verdict
returns-clause-verdict c = verdict_of_rows
