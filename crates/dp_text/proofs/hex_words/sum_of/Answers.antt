use Rattle.std.proofs.Common.{arith}
use Rattle.dp_text.proofs.HexTable.{sum_fits, sum_is_octet, sum_is_small}
use Rattle.dp_text.proofs.hex_words.sum_of.Goals as goal

pub overflow_add-result : goal.overflow_add-result
overflow_add-result c = omega (arith, c.high_of.ensures, c.low_of.ensures, sum_fits c.args.high c.args.low)

pub returns-clause-octet : goal.returns-clause-octet
returns-clause-octet c = rw (c.high_of.ensures, c.low_of.ensures) (sum_is_octet c.args.high c.args.low)

pub returns-clause-digits : goal.returns-clause-digits
returns-clause-digits c = rw (c.high_of.ensures, c.low_of.ensures) (sum_is_small c.args.high c.args.low)
