use Rattle.std.proofs.Common.{◌≡◌, ℕ, ◌<◌, arith}
use Rattle.audit_files.proofs.Numbers.{no_line}
use Rattle.audit_files.proofs.audit_name.line_in.Goals as goal

pub returns-then-number-from : goal.returns-then-number-from
returns-then-number-from c =
    no_line c.args.digits.now c.in_ok-number.number c.in_ok-number.ensures.0 c.in_ok-number.ensures.1 (omega (arith, c.if-number-from.true, c.from.ensures))
