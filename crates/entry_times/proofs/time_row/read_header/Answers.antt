use Rattle.std.proofs.Common.{◌≡◌, refl}
use Rattle.entry_times.proofs.Numbers.{same_line}
use Rattle.entry_times.proofs.time_row.read_header.Goals as goal

pub returns-else-header-line : goal.returns-else-header-line
returns-else-header-line c =
    (refl, λ is written. c.if-header-line.false (same_line c.args.text.now c.in-Some.header (record { line = c.args.line }) c.in-Some.ensures.0 is c.in-Some.ensures.1 written))

pub returns-in-None : goal.returns-in-None
returns-in-None c = (refl, λ is written. c.in-None.ensures (record { line = c.args.line }) is written)
