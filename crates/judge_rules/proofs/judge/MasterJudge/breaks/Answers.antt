use Rattle.std.proofs.Common.{sym, ◌∙◌}
use Rattle.judge_rules.proofs.Walks.{broken_at, many}
use Rattle.judge_rules.proofs.Tokens.{token_at}
use Rattle.judge_rules.proofs.judge.MasterJudge.breaks.Goals as goal

pub station_in-station-requires : goal.station_in-station-requires
station_in-station-requires c = many c.as_slice.result.now c.self.inside.past.items (c.as_slice.ensures.value ∙ c.self.invariant.1)

pub returns-in-Request : goal.returns-in-Request
returns-in-Request c =
    c.broken_by.ensures
    ∙ broken_at c.args.self.now c.self.inside.retries c.self.inside.past.items c.self.inside.bus c.station_in-station.result.now c.args.entry.now c.in-Request.request c.args.rule
    (sym c.self.view_is) c.in-Request.is c.self.invariant.0
    (c.station_in-station.ensures c.self.inside.past.items (c.as_slice.ensures.value ∙ c.self.invariant.1))

pub station_in-receiver-requires : goal.station_in-receiver-requires
station_in-receiver-requires c = many c.as_slice-in-PassedToken.result.now c.self.inside.past.items (c.as_slice-in-PassedToken.ensures.value ∙ c.self.invariant.1)

pub returns-in-PassedToken : goal.returns-in-PassedToken
returns-in-PassedToken c =
    c.broken_by_token.ensures
    ∙ token_at c.args.self.now c.self.inside.retries c.self.inside.past.items c.station_in-receiver.result.now c.args.entry.now _ c.args.rule
    (sym c.self.view_is) c.in-PassedToken.is
    (c.station_in-receiver.ensures c.self.inside.past.items (c.as_slice-in-PassedToken.ensures.value ∙ c.self.invariant.1))
