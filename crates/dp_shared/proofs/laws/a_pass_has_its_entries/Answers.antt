use Rattle.dp_shared.proofs.LockSays.{fits}
use Rattle.dp_shared.proofs.laws.a_pass_has_its_entries.Goals as goal

pub returns : goal.returns
returns c = fits
