use Rattle.std.proofs.Common.{sym, arith, ◌/◌}
use Rattle.explain_events.proofs.Digits.{one, one_more}
use Rattle.explain_events.proofs.words.digits_of.Goals as goal

pub returns-then-number-lt10-clause-digits : goal.returns-then-number-lt10-clause-digits
returns-then-number-lt10-clause-digits c = sym (one c.args.number (omega arith))

pub returns-then-number-lt100-clause-digits : goal.returns-then-number-lt100-clause-digits
returns-then-number-lt100-clause-digits c = sym (one_more c.args.number 1 (omega arith) (omega arith) (one (c.args.number / 10) (omega arith)))

pub returns-else-number-lt100-clause-digits : goal.returns-else-number-lt100-clause-digits
returns-else-number-lt100-clause-digits c =
    let n = c.args.number in
    sym (one_more n 2 (omega arith) (omega arith) (one_more (n / 10) 1 (omega arith) (omega arith) (one (n / 10 / 10) (omega arith))))
