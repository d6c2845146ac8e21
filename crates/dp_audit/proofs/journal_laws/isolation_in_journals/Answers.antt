use Rattle.std.proofs.Common.{sym}
use Rattle.dp_audit.proofs.JournalLaws.{isolated, watched_same}
use Rattle.dp_audit.proofs.journal_laws.isolation_in_journals.Goals as goal

pub returns-clause-run : goal.returns-clause-run
returns-clause-run c master address world entries legal room = sym (watched_same master address world entries legal room)

pub returns-clause-journals : goal.returns-clause-journals
returns-clause-journals c = isolated c.isolation_since_the_opening.ensures
