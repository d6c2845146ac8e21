-- An octet that doesn't stand for itself is written as its two hex digits.
use Rattle.std.proofs.Common.{◌≡◌, ◌^◌, ◌-◌, ◌++◌, [], sym, ◌∙◌, arith, false, codes}
use Rattle.std.specs.Fmt.{padded_integral, format_spec, digits}
use Rattle.std.proofs.lemmas.Fmt.{hex_byte}
use Rattle.std.proofs.Output.{has_written_of_eq}
use Rattle.rack_file.specs.Misreads.{stands_for_itself, shown_octet}
use Rattle.rack_file.proofs.misread.ShownOctetDisplay.fmt.Goals as goal

pub returns-else-stands_for_itself-clause-writes :
    goal.returns-else-stands_for_itself-clause-writes
returns-else-stands_for_itself-clause-writes g c =
    let octet = c.args.self.now.0 in
    let itself : stands_for_itself octet ≡ false = sym c.stands_for_itself.ensures ∙ c.if-stands_for_itself.false in
    let text : codes "\\x" ++ padded_integral (format_spec 32 0 4 2 (2 ^ 64 - 1)) false [] (digits 16 false octet) ≡ shown_octet octet = rw (hex_byte false octet (omega arith), itself) in
    let wrote = rw (c.laid_out.ensures, c.in_radix.ensures) at c.write.ensures.writes in
    λ plain ok. has_written_of_eq _ _ _ _ _ text (wrote plain ok)
