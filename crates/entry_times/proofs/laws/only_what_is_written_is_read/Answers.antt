use Rattle.std.proofs.Common.{◌≡◌, ℕ, List, ◌++◌, ◌∷◌, [], sym, ap, arith}
use Rattle.entry_times.proofs.laws.only_what_is_written_is_read.Goals as goal
use Rattle.entry_times.proofs.Numbers.{same_row}

pub returns : goal.returns
returns c = same_row
