-- No octets have no identifiers; any others have those after the first one, or are cut.
use Rattle.std.proofs.Common.{◌≡◌, ◌<◌, arith, length, rules}
use Rattle.std.proofs.lemmas.Grind.{common_steps}
use Rattle.explain_octets.proofs.Splitting.{identifiers_cut, identifiers_more, no_identifiers}
use Rattle.explain_octets.proofs.configurations.+write_identifiers.Goals as goal

pub returns-then-is_empty : goal.returns-then-is_empty
returns-then-is_empty g t c =
    let octets = c.args.octets.now in
    let none : length octets ≡ 0 = search rules in
    rw (no_identifiers octets none) (search rules)

pub returns-in_default : goal.returns-in_default
returns-in_default g t c =
    let octets = c.args.octets.now in
    let some : 0 < length octets = search rules in
    rw (identifiers_cut octets some c.in_default.ensures.value) (search rules)

pub returns : goal.returns
returns g t c =
    let octets = c.args.octets.now in
    let some : 0 < length octets = search rules in
    rw (identifiers_more octets c.in-Some.first.now c.in-Some.others.now some c.in-Some.ensures.value) (grind (arith, common_steps))
