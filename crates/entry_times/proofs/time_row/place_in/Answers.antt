use Rattle.std.proofs.Common.{◌≡◌, ℕ, ◌<◌, arith}
use Rattle.entry_times.proofs.Numbers.{not_place}
use Rattle.entry_times.proofs.time_row.place_in.Goals as goal

pub returns-then-number-from : goal.returns-then-number-from
returns-then-number-from c =
    not_place c.args.digits.now c.in_ok-number.number c.in_ok-number.ensures.0 c.in_ok-number.ensures.1 (omega (arith, c.if-number-from.true, c.from.ensures))
