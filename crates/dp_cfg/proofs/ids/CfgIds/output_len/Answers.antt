use Rattle.std.proofs.Common.{ap, ◌∙◌}
use Rattle.dp_cfg.specs.Reading.{output_octets}
use Rattle.dp_cfg.proofs.Readings.{fitting_of, output_octets_are}
use Rattle.dp_cfg.proofs.ids.CfgIds.output_len.Goals as goal

pub returns-clause-summed : goal.returns-clause-summed
returns-clause-summed c =
    let (ids, split, _, _) = fitting_of c.args.self.now (rw c.self.view_is at c.self.invariant.is_read) in
    (ids, split, c.self.invariant.outputs_are ∙ ap output_octets c.self.view_is ∙ output_octets_are c.args.self.now ids split)
