use Rattle.dp_shared.proofs.laws.a_pass_saw_the_halt.Goals as goal

pub returns : goal.returns
returns c line state rule = rule.brought
