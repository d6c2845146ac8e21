use Rattle.std.proofs.Common.{append_assoc}
use Rattle.rack_file.proofs.reporting.row_reported.Goals as goal

pub returns : goal.returns
returns c = simp append_assoc c.format.ensures.ok
