use Rattle.std.proofs.Common.{arith}
use Rattle.gsd_files.proofs.Joins.{join_digit}
use Rattle.gsd_files.proofs.writing.+push_decimal.Goals as goal

pub returns : goal.returns
returns t c =
    join_digit c.args.number _ _ _ c.if-number-lt10.false (omega (arith, c.ranges.number.fits)) c.in_ok-push_decimal.ensures c.in_ok-push-2.ensures
