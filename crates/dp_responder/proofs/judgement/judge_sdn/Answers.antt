use Rattle.dp_responder.proofs.Refusals.{sdn_judged}
use Rattle.dp_responder.proofs.judgement.judge_sdn.Goals as goal

pub returns : goal.returns
returns c = λ last. sdn_judged c.args.points.now last c.args.sender c.args.fc c.args.parts.now c.refusal.result c.requires c.refusal.ensures.repeat c.refusal.ensures.rule
