use Rattle.explain_texts.specs.Holds.{lasts_at}
use Rattle.explain_texts.proofs.Holding.{holds_pushed}
use Rattle.explain_texts.proofs.holds.+push_lasting.Goals as goal

pub returns-in_ok-push_hold-in-len1-up : goal.returns-in_ok-push_hold-in-len1-up
returns-in_ok-push_hold-in-len1-up t c =
    holds_pushed (lasts_at c.args.line.now.world) c.push_lasting.result c.args.holds.now.items c.push_hold.new.holds.items c.push_lasting.new.holds.items
    c.args.slaves.now c.slave-item.result c.hold_lasting.result c.in-len1-up.len_at_least c.slave-item.is c.hold_lasting.ensures c.in_ok-push_hold-in-len1-up.ensures c.push_lasting.ensures
