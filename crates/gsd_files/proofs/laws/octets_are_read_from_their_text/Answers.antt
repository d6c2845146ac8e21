use Rattle.gsd_files.proofs.ReadRows.{octets_read}
use Rattle.gsd_files.proofs.laws.octets_are_read_from_their_text.Goals as goal

pub returns : goal.returns
returns c octets room all within = octets_read octets room all within
