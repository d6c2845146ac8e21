use Rattle.dp_shared.proofs.AllEntries.{all_counted, each_of_pass}
use Rattle.dp_shared.proofs.laws.the_passes_have_all_entries.Goals as goal

pub returns-clause-each : goal.returns-clause-each
returns-clause-each c closed passes numbered all differ every = each_of_pass closed passes numbered all differ every

pub returns-clause-long : goal.returns-clause-long
returns-clause-long c = all_counted
