use Rattle.dp_audit.proofs.JournalRuns.{added_after, added_are_reported, added_legal, taken_entries, taken_world}
use Rattle.dp_audit.proofs.journal_laws.the_journal_of_a_run_is_legal.Goals as goal

pub returns-clause-legal : goal.returns-clause-legal
returns-clause-legal c = added_legal

pub returns-clause-world : goal.returns-clause-world
returns-clause-world c = added_after

pub returns-clause-reported : goal.returns-clause-reported
returns-clause-reported c = added_are_reported

pub returns-clause-entries : goal.returns-clause-entries
returns-clause-entries c = taken_entries

pub returns-clause-line : goal.returns-clause-line
returns-clause-line c = taken_world
