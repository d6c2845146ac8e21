use Rattle.dp_audit.proofs.JournalRuns.{are_answers, is_run, stands_for}
use Rattle.dp_audit.proofs.journal_laws.a_legal_journal_is_a_run.Goals as goal

pub returns-clause-world : goal.returns-clause-world
returns-clause-world c = is_run

pub returns-clause-answers : goal.returns-clause-answers
returns-clause-answers c = are_answers

pub returns-clause-last : goal.returns-clause-last
returns-clause-last c = stands_for
