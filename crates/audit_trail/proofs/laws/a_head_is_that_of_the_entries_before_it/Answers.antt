use Rattle.audit_trail.proofs.Heads.{head_of}
use Rattle.audit_trail.proofs.Trailing.{fits_now}
use Rattle.audit_trail.proofs.laws.a_head_is_that_of_the_entries_before_it.Goals as goal

pub returns-clause-always : goal.returns-clause-always
returns-clause-always c = λ line state rule seat index pass earlier later look count head at. head_of rule.content pass earlier later look count head (fits_now line state rule seat index pass at)

pub returns-clause-closed : goal.returns-clause-closed
returns-clause-closed c = head_of
