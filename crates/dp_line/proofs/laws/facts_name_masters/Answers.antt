use Rattle.dp_line.proofs.Facts.{facts_report}
use Rattle.dp_line.proofs.laws.facts_name_masters.Goals as goal

pub returns : goal.returns
returns c = facts_report
