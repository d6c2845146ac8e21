use Rattle.std.proofs.Common.{sym}
use Rattle.dp_line.specs.Steps.{run}
use Rattle.dp_audit.specs.JournalRuns.{events_of}
use Rattle.dp_audit.proofs.JournalLaws.{outcome_is}
use Rattle.dp_audit.proofs.JournalRuns.{entry_answer, entry_follows, entry_place, entry_world}
use Rattle.dp_audit.proofs.journal_laws.an_entry_has_the_answer_of_the_policy.Goals as goal

pub returns-clause-place : goal.returns-clause-place
returns-clause-place c = entry_place

pub returns-clause-facts : goal.returns-clause-facts
returns-clause-facts c world before rest entry legal = (entry_follows world before rest entry legal).facts

pub returns-clause-outcome : goal.returns-clause-outcome
returns-clause-outcome c world before rest entry legal = (entry_follows world before rest entry legal).outcome

pub returns-clause-answer : goal.returns-clause-answer
returns-clause-answer c = entry_answer

pub returns-clause-request : goal.returns-clause-request
returns-clause-request c world before rest entry sender octets legal is =
    sym (outcome_is (run world (events_of before)).world entry sender octets (entry_follows world before rest entry legal) is)

pub returns-clause-world : goal.returns-clause-world
returns-clause-world c = entry_world
