use Rattle.dp_slave.proofs.Suits.{service_suits}
use Rattle.dp_slave.proofs.laws.a_request_suits_the_slave.Goals as goal

pub returns : goal.returns
returns c = service_suits c.lock_or_fault.ensures.lock c.not_supported_is_sync_or_freeze.ensures
