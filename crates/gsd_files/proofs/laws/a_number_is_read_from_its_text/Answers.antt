use Rattle.gsd_files.proofs.ReadBack.{number_read}
use Rattle.gsd_files.proofs.laws.a_number_is_read_from_its_text.Goals as goal

pub returns : goal.returns
returns c = number_read
