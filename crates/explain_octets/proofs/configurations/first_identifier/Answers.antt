-- What follows the first identifier is what does not belong to it.
use Rattle.std.proofs.Common.{◌-◌, length, rules, take}
use Rattle.explain_octets.proofs.Slots.{slots_cut, slots_more}
use Rattle.explain_octets.proofs.Splitting.{front_is_first, none_is_first}
use Rattle.explain_octets.proofs.configurations.first_identifier.Goals as goal

pub returns-in_err-behind-clause-value : goal.returns-in_err-behind-clause-value
returns-in_err-behind-clause-value c = search (rules, none_is_first)

pub returns-clause-value : goal.returns-clause-value
returns-clause-value c = search (rules, front_is_first)

pub returns-in_err-behind-clause-cut : goal.returns-in_err-behind-clause-cut
returns-in_err-behind-clause-cut c = search (rules, slots_cut, none_is_first)

pub returns-clause-slots : goal.returns-clause-slots
returns-clause-slots c =
    let octets = c.args.octets.now in
    let behind = c.in_ok-behind.behind.now in
    slots_more octets (take (length octets - length behind) octets) behind (front_is_first octets behind c.in_ok-behind.ensures)
