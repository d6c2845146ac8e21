use Rattle.std.proofs.Common.{refl}
use Rattle.audit_files.specs.DueParts.{numbers_above}
use Rattle.audit_files.proofs.due_parts.DueParts.new.Goals as goal

pub returns-clause-due : goal.returns-clause-due
unfolding numbers_above
returns-clause-due c = refl
