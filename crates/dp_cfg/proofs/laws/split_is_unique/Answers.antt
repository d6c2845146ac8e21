use Rattle.dp_cfg.proofs.Splits.{split_unique}
use Rattle.dp_cfg.proofs.laws.split_is_unique.Goals as goal

pub returns : goal.returns
returns c = split_unique
