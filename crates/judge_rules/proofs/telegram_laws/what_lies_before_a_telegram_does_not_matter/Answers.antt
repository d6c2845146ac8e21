use Rattle.std.proofs.Common.{◌≡◌, ℕ, true, refl}
use Rattle.judge_rules.specs.declared.bus.Bus.{Bus}
use Rattle.judge_rules.specs.declared.entry.Request.{Request}
use Rattle.judge_rules.specs.declared.rule.JudgeRule.{JudgeRule}
use Rattle.judge_rules.specs.declared.rule.JudgeRule.TheVariants as rules
use Rattle.judge_rules.specs.declared.station.Station.{Station}
use Rattle.judge_rules.specs.BusFacts.{bus_of}
use Rattle.judge_rules.specs.LawWords.{is_of_the_telegram}
use Rattle.judge_rules.specs.Rules.{broken_by}
use Rattle.judge_rules.specs.Stations.{station_of}
use Rattle.judge_rules.proofs.telegram_laws.what_lies_before_a_telegram_does_not_matter.Goals as goal

alone : (limit other : ℕ) (bus before : Bus) (station earlier : Station) (request : Request) (rule : JudgeRule) → is_of_the_telegram rule ≡ true
    → broken_by limit bus station request rule ≡ broken_by other before earlier request rule
alone limit other bus before station earlier request rules.FcbNotAllowed is = refl
alone limit other bus before station earlier request rules.PrmShort is = refl
alone limit other bus before station earlier request rules.PrmReserved is = refl
alone limit other bus before station earlier request rules.LockAndUnlock is = refl
alone limit other bus before station earlier request rules.MinTsdr is = refl
alone limit other bus before station earlier request rules.WatchdogZero is = refl
alone limit other bus before station earlier request rules.GroupNotSet is = refl
alone limit other bus before station earlier request rules.ControlBoth is = refl
alone limit other bus before station earlier request rules.ControlReserved is = refl
alone limit other bus before station earlier request rules.ControlLength is = refl
alone limit other bus before station earlier request rules.ControlWithSrd is = refl
alone limit other bus before station earlier request rules.SdnNeedsReply is = refl
alone limit other bus before station earlier request rules.BroadcastNeedsReply is = refl
alone limit other bus before station earlier request rules.SdaNotAllowed is = refl
alone limit other bus before station earlier request rules.UnknownPoint is = refl
alone limit other bus before station earlier request rules.SourcePoint is = refl
alone limit other bus before station earlier request rules.OctetsNotAllowed is = refl
alone limit other bus before station earlier request rule is = absurd cc

pub returns : goal.returns
returns c limit other past before request rule is =
    alone limit other (bus_of past) (bus_of before) (station_of request.address past) (station_of request.address before) request rule is
