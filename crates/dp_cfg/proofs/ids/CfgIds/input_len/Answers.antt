use Rattle.std.proofs.Common.{ap, ◌∙◌}
use Rattle.dp_cfg.specs.Reading.{input_octets}
use Rattle.dp_cfg.proofs.Readings.{fitting_of, input_octets_are}
use Rattle.dp_cfg.proofs.ids.CfgIds.input_len.Goals as goal

pub returns-clause-summed : goal.returns-clause-summed
returns-clause-summed c =
    let (ids, split, _, _) = fitting_of c.args.self.now (rw c.self.view_is at c.self.invariant.is_read) in
    (ids, split, c.self.invariant.inputs_are ∙ ap input_octets c.self.view_is ∙ input_octets_are c.args.self.now ids split)
