use Rattle.dp_slave.proofs.Lives.{reported_by}
use Rattle.dp_slave.proofs.laws.an_unsupported_request_is_reported.Goals as goal

pub returns-clause-fault : goal.returns-clause-fault
returns-clause-fault c slave sender place octets locking unsupported =
    (reported_by slave sender place _ ((c.not_supported_is_sync_or_freeze.ensures octets _).1 (locking, unsupported))).0

pub returns-clause-reported : goal.returns-clause-reported
returns-clause-reported c slave sender place octets locking unsupported =
    (reported_by slave sender place _ ((c.not_supported_is_sync_or_freeze.ensures octets _).1 (locking, unsupported))).1
