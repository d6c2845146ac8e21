use Rattle.std.proofs.Common.{◌≡◌, ℕ, true, ap, refl, ◌∙◌, ◌++◌, ◌∷◌}
use Rattle.judge_rules.specs.declared.bus.Bus.{Bus}
use Rattle.judge_rules.specs.declared.entry.Request.{Request}
use Rattle.judge_rules.specs.declared.rule.JudgeRule.{JudgeRule}
use Rattle.judge_rules.specs.declared.rule.JudgeRule.TheVariants as rules
use Rattle.judge_rules.specs.declared.station.Station.{Station}
use Rattle.judge_rules.specs.BusFacts.{bus_of}
use Rattle.judge_rules.specs.LawWords.{is_of_a_station}
use Rattle.judge_rules.specs.Rules.{broken_by}
use Rattle.judge_rules.specs.Stations.{station_of}
use Rattle.judge_rules.proofs.Since.{same_station}
use Rattle.judge_rules.proofs.bring_up_laws.a_station_is_judged_by_the_requests_to_it.Goals as goal

by_station : (limit : ℕ) (bus other : Bus) (station : Station) (request : Request) (rule : JudgeRule) → is_of_a_station rule ≡ true
    → broken_by limit bus station request rule ≡ broken_by limit other station request rule
by_station limit bus other station request rules.RetryLimit is = absurd cc
by_station limit bus other station request rules.NoRequest is = absurd cc
by_station limit bus other station request rules.OutputsInClear is = absurd cc
by_station limit bus other station request rules.WatchdogShort is = absurd cc
by_station limit bus other station request rules.ControlNotAsked is = absurd cc
by_station limit bus other station request rule is = refl

pub returns : goal.returns
returns c limit front back entry request rule other is =
    ap (λ (s : Station). broken_by limit (bus_of (front ++ entry ∷ back)) s request rule) (same_station request.address front back entry other)
    ∙ by_station limit (bus_of (front ++ entry ∷ back)) (bus_of (front ++ back)) (station_of request.address (front ++ back)) request rule is
