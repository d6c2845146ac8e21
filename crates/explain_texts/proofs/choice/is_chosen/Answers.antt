use Rattle.std.proofs.Common.{not, ap, sym}
use Rattle.std.proofs.lemmas.Bool.{and_right}
use Rattle.explain_texts.proofs.choice.is_chosen.Goals as goal

pub returns-then-choice : goal.returns-then-choice
returns-then-choice c = sym (and_right _ (not c.args.choice.now.summary) (ap not c.if-choice.true))
