use Rattle.std.proofs.Common.{sym, ◌∙◌}
use Rattle.std.proofs.Output.{has_written_of_eq}
use Rattle.explain_texts.proofs.PlainValues.{plain_inside}
use Rattle.explain_texts.proofs.json_values.InsideDisplay.fmt.Goals as goal

pub returns-in-Ok-clause-writes : goal.returns-in-Ok-clause-writes
returns-in-Ok-clause-writes g c = λ plain ok.
    has_written_of_eq _ _ _ _ _
    (c.in-Ok.ensures.cases.0 ∙ sym (plain_inside c.args.self.now.0.now (sym c.are_plain.ensures ∙ c.if-are_plain.true)))
    (c.write_str.ensures.writes plain ok)
