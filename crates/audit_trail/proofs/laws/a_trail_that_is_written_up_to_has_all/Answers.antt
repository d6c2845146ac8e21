use Rattle.audit_trail.proofs.SeenAll.{all_now, all_of}
use Rattle.audit_trail.proofs.laws.a_trail_that_is_written_up_to_has_all.Goals as goal

pub returns-clause-always : goal.returns-clause-always
returns-clause-always c = all_now

pub returns-clause-closed : goal.returns-clause-closed
returns-clause-closed c = all_of
