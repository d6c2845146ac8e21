use Rattle.audit_heads.proofs.Sizes.{head_at_most, rows_counted, rows_short}
use Rattle.audit_heads.proofs.laws.a_head_has_a_bounded_size.Goals as goal

pub returns-clause-rows : goal.returns-clause-rows
returns-clause-rows c = rows_counted

pub returns-clause-row : goal.returns-clause-row
returns-clause-row c = rows_short

pub returns-clause-head : goal.returns-clause-head
returns-clause-head c = head_at_most
