use Rattle.explain_texts.specs.Holds.{ended_at}
use Rattle.explain_texts.proofs.Holding.{octets_pushed}
use Rattle.explain_texts.proofs.holds.+push_ended_of.Goals as goal

pub returns-in_ok-push_hold-in-len1-up : goal.returns-in_ok-push_hold-in-len1-up
returns-in_ok-push_hold-in-len1-up t c =
    let taken = c.args.taken.now in
    octets_pushed (ended_at taken.before.now.world taken.after.now.world taken.place taken.event.now) c.push_ended_of.result c.args.holds.now.items c.push_hold.new.holds.items c.push_ended_of.new.holds.items
    c.args.addresses.now c.hold_ended.result c.in-len1-up.len_at_least c.hold_ended.ensures c.in_ok-push_hold-in-len1-up.ensures c.push_ended_of.ensures
