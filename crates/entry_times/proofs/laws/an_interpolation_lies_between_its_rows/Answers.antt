use Rattle.std.proofs.Common.{◌≡◌}
use Rattle.entry_times.proofs.InOrder.{not_above, not_below}
use Rattle.entry_times.proofs.laws.an_interpolation_lies_between_its_rows.Goals as goal

pub returns : goal.returns
returns c = λ before after place order above below. (not_below before after place, not_above before after place order above below)
