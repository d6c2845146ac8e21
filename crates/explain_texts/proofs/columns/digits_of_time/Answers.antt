use Rattle.std.proofs.Common.{arith, sym}
use Rattle.explain_texts.proofs.TenTimes.{one_more, zero_has_one}
use Rattle.explain_texts.proofs.columns.digits_of_time.Goals as goal

pub returns-then-units-eq0-clause-digits : goal.returns-then-units-eq0-clause-digits
returns-then-units-eq0-clause-digits c = sym (zero_has_one c.args.units (omega arith))

pub returns-else-units-eq0-clause-digits : goal.returns-else-units-eq0-clause-digits
returns-else-units-eq0-clause-digits c = sym (one_more c.args.units c.digits_of_long.result (omega arith) (omega arith) c.digits_of_long.ensures.digits)
