use Rattle.std.proofs.Common.{◌∙◌}
use Rattle.dp_telegram.specs.declared.frame.Frame.TheVariants as frames
use Rattle.explain_octets.proofs.DataUnits.{unit_between}
use Rattle.explain_octets.proofs.contents.data_unit.Goals as goal

pub returns : goal.returns
returns c telegram spelt =
    rw c.head_size.ensures.size at c.between.ensures
    ∙ unit_between c.args.octets.now telegram ((c.relation_and_computation_agree.ensures c.args.octets.now (frames.Telegram telegram)).1 spelt)
