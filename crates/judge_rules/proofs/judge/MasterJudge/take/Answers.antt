use Rattle.std.proofs.Common.{◌∙◌}
use Rattle.judge_rules.proofs.Walks.{many}
use Rattle.judge_rules.proofs.judge.MasterJudge.take.Goals as goal

pub take_at-requires : goal.take_at-requires
take_at-requires c = many c.as_mut_slice.result.now c.self.inside.past.items (c.as_mut_slice.ensures.value ∙ c.self.invariant.1)
