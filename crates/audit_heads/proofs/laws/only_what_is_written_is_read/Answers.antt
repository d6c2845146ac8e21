use Rattle.audit_heads.proofs.HeadRead.{head_is, world_is}
use Rattle.audit_heads.proofs.laws.only_what_is_written_is_read.Goals as goal

pub returns-clause-follows : goal.returns-clause-follows
returns-clause-follows c = head_is

pub returns-clause-alone : goal.returns-clause-alone
returns-clause-alone c = world_is
