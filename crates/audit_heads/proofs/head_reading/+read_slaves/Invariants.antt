use Rattle.audit_heads.proofs.head_reading.+read_slaves.Given as goal

abbrev pub decreases-read_slaves : goal.decreases-read_slaves
decreases-read_slaves l = l.count
