use Rattle.std.proofs.Common.{◌≡◌, ◌∙◌, take, arith, rules}
use Rattle.std.specs.Prelude.{replicate}
use Rattle.std.proofs.lemmas.List.{take-replicate}
use Rattle.dp_slave.proofs.data_octets.DataOctets.zeros.Goals as goal

pub returns : goal.returns
returns c =
    let taken : c.unwrap.result.items ≡ take c.args.count (replicate 244 0) = search rules in
    taken ∙ take-replicate c.args.count 244 0 (omega arith)
