use Rattle.explain_texts.proofs.AtAddress.{one_more_address}
use Rattle.explain_texts.proofs.statistics.first_statistics.Goals as goal

pub loop-address-preserved : goal.loop-address-preserved
loop-address-preserved c =
    one_more_address c.loop-address.statistics.items c.push.new.self.items c.loop-address.address c.new.result c.loop-address.invariant c.new.ensures c.in_ok-push.ensures.items
