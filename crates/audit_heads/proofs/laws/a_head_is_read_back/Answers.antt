use Rattle.audit_heads.proofs.HeadRead.{head_back, world_back}
use Rattle.audit_heads.proofs.laws.a_head_is_read_back.Goals as goal

pub returns-clause-follows : goal.returns-clause-follows
returns-clause-follows c = head_back

pub returns-clause-alone : goal.returns-clause-alone
returns-clause-alone c = world_back
