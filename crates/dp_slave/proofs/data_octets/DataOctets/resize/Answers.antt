use Rattle.std.proofs.Common.{◌≡◌, ◌∙◌, ◌-◌, ◌++◌, length, take, rules}
use Rattle.std.specs.Prelude.{replicate}
use Rattle.dp_slave.proofs.Lengths.{filled}
use Rattle.dp_slave.proofs.data_octets.DataOctets.resize.Goals as goal

pub returns : goal.returns
returns c =
    let joined : c.try_extend_from_slice.new.self.items ≡ take c.args.count c.args.self.now ++ take (c.args.count - length (take c.args.count c.args.self.now)) (replicate 244 0) = search rules in
    joined ∙ filled c.args.count c.args.self.now c.requires
