use Rattle.dp_prm.proofs.Cases.{reports_not_supported}
use Rattle.dp_prm.proofs.laws.not_supported_is_sync_or_freeze.Goals as goal

pub returns : goal.returns
returns c = reports_not_supported
