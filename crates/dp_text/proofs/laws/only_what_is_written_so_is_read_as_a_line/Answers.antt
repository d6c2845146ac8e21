use Rattle.dp_text.proofs.LinesRead.{line_is}
use Rattle.dp_text.proofs.laws.only_what_is_written_so_is_read_as_a_line.Goals as goal

pub returns : goal.returns
returns c = line_is
