use Rattle.dp_text.proofs.LinesRead.{line_read}
use Rattle.dp_text.proofs.laws.a_line_is_read_as_it_is_written.Goals as goal

pub returns : goal.returns
returns c = line_read
