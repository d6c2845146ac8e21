-- A station that has answered is a slave, and a token to it breaks a rule.
use Rattle.std.proofs.Common.{◌≡◌, ℕ, Bool, true, false, not, List, [], ◌∷◌, ◌++◌, ap, refl, sym, ◌∙◌}
use Rattle.std.specs.Prelude.{◌==◌, ◌&&◌, ◌||◌, if◌then◌else◌}
use Rattle.std.specs.List.{fold, list_all}
use Rattle.std.proofs.lemmas.Bool.{and_parts, eq-eqb}
use Rattle.std.proofs.lemmas.List.Folds.{list_any-append}
use Rattle.judge_rules.specs.declared.entry.Entry.{Entry}
use Rattle.judge_rules.specs.declared.entry.Entry.TheVariants as entries
use Rattle.judge_rules.specs.declared.entry.Request.{Request}
use Rattle.judge_rules.specs.declared.rule.JudgeRule.{JudgeRule}
use Rattle.judge_rules.specs.declared.station.Station.{Station}
use Rattle.judge_rules.specs.Entries.{is_answered}
use Rattle.judge_rules.specs.Judges.{JudgeView}
use Rattle.judge_rules.specs.Rules.{breaks}
use Rattle.judge_rules.specs.Stations.{new_station, station_after, station_of, station_with}
use Rattle.judge_rules.specs.TokenRules.{broken_by_token, is_answered_by, is_slave}

-- ---- what a station stores

or_false : (b : Bool) → b ≡ (b || false)
or_false true = refl
or_false false = refl

apart : (x y z : Bool) → ((x || y) || z) ≡ (x || (y || z))
apart true y z = refl
apart false y z = refl

taken : (at answers : Bool) (s after : Station) (rest : Bool) → after.has_answered ≡ (s.has_answered || answers)
    → ((if at then after else s).has_answered || rest) ≡ (s.has_answered || (at && answers || rest))
taken true answers s after rest is = ap (λ (b : Bool). b || rest) is ∙ apart s.has_answered answers rest
taken false answers s after rest is = refl

answered_from : (address : ℕ) (s : Station) (past : List Entry) → (fold (station_with address) s past).has_answered ≡ (s.has_answered || is_slave address past)
answered_from address s [] = or_false s.has_answered
answered_from address s (entries.Request request ∷ past) =
    answered_from address (station_with address s (entries.Request request)) past
    ∙ taken (request.address == address) (is_answered request.answer) s (station_after s request) (is_slave address past) refl
answered_from address s (entries.PassedToken to ∷ past) = answered_from address s past
answered_from address s (entries.Stray ∷ past) = answered_from address s past

pub has_answered_is : (address : ℕ) (past : List Entry) → (station_of address past).has_answered ≡ is_slave address past
has_answered_is address past = answered_from address new_station past

-- a rule over what the entries left of the station is a rule over the entries
pub token_at : (view : JudgeView) (retries : ℕ) (past : List Entry) (station : Station) (entry : Entry) (to : ℕ) (rule : JudgeRule)
    → view ≡ record { retries = retries; past = past } → entry ≡ entries.PassedToken to → station ≡ station_of to past
    → broken_by_token station.has_answered rule ≡ breaks view.retries view.past entry rule
token_at view retries past station entry to rule viewed is_token station_is =
    ap (λ (s : Station). broken_by_token s.has_answered rule) station_is
    ∙ ap (λ (b : Bool). broken_by_token b rule) (has_answered_is to past)
    ∙ ap (λ e. breaks retries past e rule) (sym is_token)
    ∙ ap (λ (v : JudgeView). breaks v.retries v.past entry rule) (sym viewed)

-- ---- one answer, and none

both : (a b : Bool) → a ≡ true → b ≡ true → (a && b) ≡ true
both true b first is = is
both false b first is = absurd cc

one_is : (x y z : Bool) → y ≡ true → (x || (y || z)) ≡ true
one_is true y z is = refl
one_is false true z is = refl
one_is false false z is = absurd cc

pub answered_once : (front back : List Entry) (request : Request) → is_answered request.answer ≡ true
    → is_slave request.address (front ++ entries.Request request ∷ back) ≡ true
answered_once front back request is =
    list_any-append (is_answered_by request.address) front (entries.Request request ∷ back)
    ∙ one_is (is_slave request.address front) (request.address == request.address && is_answered request.answer) (is_slave request.address back)
    (both (request.address == request.address) (is_answered request.answer) (eq-eqb request.address request.address refl) is)

neither : (a b : Bool) → not a ≡ true → b ≡ false → (a || b) ≡ false
neither true b first is = absurd cc
neither false b first is = is

pub answered_never : (to : ℕ) (past : List Entry) → list_all (λ entry. not (is_answered_by to entry)) past ≡ true → is_slave to past ≡ false
answered_never to [] none = refl
answered_never to (entry ∷ past) none =
    let parts = and_parts (not (is_answered_by to entry)) (list_all (λ entry. not (is_answered_by to entry)) past) none in
    neither (is_answered_by to entry) (is_slave to past) parts.0 (answered_never to past parts.1)
