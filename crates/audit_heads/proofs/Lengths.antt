-- The lengths of words.
use Rattle.std.proofs.Common.{append_assoc, length-append}
use Rattle.dp_text.proofs.Decimals.{short, short_octet, short_long}
use Rattle.dp_text.proofs.Lengths.{hex_length, state_is_short}

pub ruleset lengths = (hex_length, state_is_short, short, short_octet, short_long, append_assoc, length-append)
