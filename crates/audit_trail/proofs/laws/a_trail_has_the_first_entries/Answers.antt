use Rattle.audit_trail.proofs.Trailing.{first_entries_now, first_entries_of}
use Rattle.audit_trail.proofs.laws.a_trail_has_the_first_entries.Goals as goal

pub returns-clause-always : goal.returns-clause-always
returns-clause-always c = first_entries_now

pub returns-clause-closed : goal.returns-clause-closed
returns-clause-closed c = first_entries_of
