use Rattle.std.proofs.Common.{sym, ◌∙◌}
use Rattle.judge_rules.proofs.Walks.{before_at, many}
use Rattle.judge_rules.proofs.judge.MasterJudge.srd_before.Goals as goal

pub station_in-requires : goal.station_in-requires
station_in-requires c = many c.as_slice.result.now c.self.inside.past.items (c.as_slice.ensures.value ∙ c.self.invariant.1)

pub returns-in-Request : goal.returns-in-Request
returns-in-Request c =
    c.last_octets.ensures
    ∙ before_at c.args.self.now c.self.inside.retries c.self.inside.past.items c.station_in.result.now c.args.entry.now c.in-Request.request
    (sym c.self.view_is) c.in-Request.is
    (c.station_in.ensures c.self.inside.past.items (c.as_slice.ensures.value ∙ c.self.invariant.1))
