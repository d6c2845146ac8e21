use Rattle.dp_telegram.proofs.Ends.{short_is_none}
use Rattle.dp_telegram.proofs.laws.short_octets_begin_with_nothing.Goals as goal

pub returns : goal.returns
returns c = short_is_none
