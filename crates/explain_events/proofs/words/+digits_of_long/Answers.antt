use Rattle.std.proofs.Common.{◌≡◌, ◌+◌, ◌≤◌, sym, arith, length}
use Rattle.std.specs.Fmt.{decimal}
use Rattle.explain_events.proofs.Digits.{one, one_more, twenty_at_most}
use Rattle.explain_events.proofs.words.+digits_of_long.Goals as goal

pub returns-then-number-lt10-clause-digits : goal.returns-then-number-lt10-clause-digits
returns-then-number-lt10-clause-digits t c = sym (one c.args.number (omega arith))

pub returns-else-number-lt10-clause-digits : goal.returns-else-number-lt10-clause-digits
returns-else-number-lt10-clause-digits t c =
    let more : length (decimal c.args.number) ≡ c.digits_of_long.result + 1 = one_more c.args.number c.digits_of_long.result (omega arith) (omega arith) (sym c.digits_of_long.ensures.digits) in
    omega (arith, more)

pub returns-else-number-lt10-clause-few : goal.returns-else-number-lt10-clause-few
returns-else-number-lt10-clause-few t c =
    let more : length (decimal c.args.number) ≡ c.digits_of_long.result + 1 = one_more c.args.number c.digits_of_long.result (omega arith) (omega arith) (sym c.digits_of_long.ensures.digits) in
    let most : length (decimal c.args.number) ≤ 20 = twenty_at_most c.args.number (omega arith) in
    omega (arith, more, most)
