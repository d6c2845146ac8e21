use Rattle.dp_audit.proofs.Newest.{kept_or_forgotten}
use Rattle.dp_audit.proofs.laws.an_entry_is_kept_exactly_or_forgotten.Goals as goal

pub returns : goal.returns
returns c = kept_or_forgotten
