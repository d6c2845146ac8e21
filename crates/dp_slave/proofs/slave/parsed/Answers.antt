use Rattle.std.proofs.Common.{◌≡◌, ◌<◌, true, length, get_or, rules, subst, sym}
use Rattle.dp_slave.specs.SlaveRecord.{can_be_parsed}
use Rattle.dp_slave.proofs.Lengths.{parsed_at}
use Rattle.dp_slave.proofs.slave.parsed.Goals as goal

pub unwrap-requires : goal.unwrap-requires
unwrap-requires c =
    let below : c.loop-cfg.cfg-index < length c.args.cfgs.now = search rules in
    let read : can_be_parsed (get_or c.args.cfgs.now c.loop-cfg.cfg-index c.cfg-item.result).items ≡ true =
    parsed_at (λ x. x.items) c.args.cfgs.now c.loop-cfg.cfg-index c.cfg-item.result c.requires.read below in
    let item : can_be_parsed c.cfg-item.result.items ≡ true = subst (λ x. can_be_parsed x.items ≡ true) (sym c.cfg-item.is) read in
    search (item, rules)
