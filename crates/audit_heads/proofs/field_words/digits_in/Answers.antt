use Rattle.std.proofs.Common.{sym, arith}
use Rattle.dp_text.proofs.Numerals.{too_large}
use Rattle.audit_heads.specs.FieldWords.{most_64}
use Rattle.audit_heads.proofs.field_words.digits_in.Goals as goal

pub returns-then-value-limit : goal.returns-then-value-limit
returns-then-value-limit c =
    too_large most_64 c.loop-left.value c.loop-left.left.now c.args.word.now c.loop-left.invariant.value c.in-len1-up.len_at_least
    (sym c.if-not-is_ascii_digit.ensures.value) (omega (arith, c.if-value-limit.true, c.from.ensures, c.from-limit.ensures))
