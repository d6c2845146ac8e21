use Rattle.std.proofs.Common.{◌+◌, ◌/◌, ◌%◌, [], ◌∷◌, ◌++◌, ap, sym, ◌∙◌, append_assoc, arith}
use Rattle.std.specs.Fmt.{decimal}
use Rattle.dp_text.proofs.Decimals.{last_digit, one_digit_more}
use Rattle.dp_text.proofs.text.Text.+push_decimal.Goals as goal

pub push-requires-else-number-lt10 : goal.push-requires-else-number-lt10
push-requires-else-number-lt10 t c =
    let more = one_digit_more c.args.number c.if-number-lt10.false c.ranges.number.fits in
    omega (arith, more, c.requires, c.push_decimal.ensures.size)

pub returns-else-number-lt10-clause-size : goal.returns-else-number-lt10-clause-size
returns-else-number-lt10-clause-size t c =
    let more = one_digit_more c.args.number c.if-number-lt10.false c.ranges.number.fits in
    omega (arith, more, c.push_decimal.ensures.size, c.push-else-number-lt10.ensures.size)

pub returns-else-number-lt10-clause-text : goal.returns-else-number-lt10-clause-text
returns-else-number-lt10-clause-text t c =
    let n = c.args.number in
    c.push-else-number-lt10.ensures.text
    ∙ ap (λ before. before ++ (48 + n % 10) ∷ []) c.push_decimal.ensures.text
    ∙ append_assoc c.args.self.now (decimal (n / 10)) ((48 + n % 10) ∷ [])
    ∙ ap (λ digits. c.args.self.now ++ digits) (sym (last_digit n c.if-number-lt10.false c.ranges.number.fits))
