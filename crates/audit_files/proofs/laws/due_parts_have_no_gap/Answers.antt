use Rattle.std.proofs.Common.{◌-◌}
use Rattle.audit_files.proofs.Due.{how_many, number_at}
use Rattle.audit_files.proofs.laws.due_parts_have_no_gap.Goals as goal

pub returns-clause-each : goal.returns-clause-each
returns-clause-each c keep newest handed_over index below = number_at handed_over (newest - keep - handed_over) index below

pub returns-clause-count : goal.returns-clause-count
returns-clause-count c keep newest handed_over = how_many handed_over (newest - keep - handed_over)
