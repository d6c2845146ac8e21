use Rattle.dp_text.proofs.ReadExactly.{number_is}
use Rattle.dp_text.proofs.laws.only_its_text_is_read_as_a_number.Goals as goal

pub returns : goal.returns
returns c = number_is
