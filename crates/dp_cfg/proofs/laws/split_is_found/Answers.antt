use Rattle.dp_cfg.proofs.Splits.{split_found, split_is}
use Rattle.dp_cfg.proofs.laws.split_is_found.Goals as goal

pub returns : goal.returns
returns c = λ octets identifiers. (split_found octets identifiers, split_is octets identifiers)
