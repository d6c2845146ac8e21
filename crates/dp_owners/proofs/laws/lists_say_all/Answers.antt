use Rattle.dp_owners.proofs.Same.{same_all}
use Rattle.dp_owners.proofs.laws.lists_say_all.Goals as goal

pub returns : goal.returns
returns c = same_all
