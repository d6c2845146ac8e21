use Rattle.rack_file.proofs.Places.{stands_within}
use Rattle.rack_file.proofs.laws.bad_keys_stand_in_lines_1_to_8.Goals as goal

pub returns : goal.returns
returns c = stands_within
