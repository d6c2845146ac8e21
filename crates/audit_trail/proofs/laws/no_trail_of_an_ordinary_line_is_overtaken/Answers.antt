use Rattle.audit_trail.proofs.Overtaken.{never_missed, never_missed_closed}
use Rattle.audit_trail.proofs.laws.no_trail_of_an_ordinary_line_is_overtaken.Goals as goal

pub returns-clause-always : goal.returns-clause-always
returns-clause-always c = never_missed

pub returns-clause-closed : goal.returns-clause-closed
returns-clause-closed c = never_missed_closed
