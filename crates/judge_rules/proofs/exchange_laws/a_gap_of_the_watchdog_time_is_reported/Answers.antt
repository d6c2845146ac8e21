use Rattle.std.proofs.Common.{◌≡◌, ℕ, Bool, true, false, not, List, ◌∷◌, ◌++◌, Option, Some, None, ap, refl, sym, arith, ◌∙◌}
use Rattle.std.specs.Prelude.{◌&&◌, ◌-◌, max, nat_le, if◌then◌else◌}
use Rattle.judge_rules.specs.declared.entry.Answer.{Answer}
use Rattle.judge_rules.specs.declared.entry.Answer.TheVariants as answers
use Rattle.judge_rules.specs.declared.entry.Asked.{Asked}
use Rattle.judge_rules.specs.declared.entry.Asked.TheVariants as asks
use Rattle.judge_rules.specs.declared.entry.Entry.{Entry}
use Rattle.judge_rules.specs.declared.entry.Entry.TheVariants as entries
use Rattle.judge_rules.specs.declared.entry.Parameters.{Parameters}
use Rattle.judge_rules.specs.declared.entry.Request.{Request}
use Rattle.judge_rules.specs.declared.station.Last.{Last}
use Rattle.judge_rules.specs.declared.rule.JudgeRule.TheVariants as rules
use Rattle.judge_rules.specs.BusFacts.{bus_of}
use Rattle.judge_rules.specs.Laws.{have_no_srd_to, is_srd_to}
use Rattle.judge_rules.specs.Rules.{breaks}
use Rattle.judge_rules.specs.Effects.{have_no_effect, effect, effect_by, effect_of_diag, effect_of_exchange, effect_of_prm, configures, nothing, locks, releases}
use Rattle.judge_rules.specs.Entries.{chk_cfg_asked, diag_asked, exchange_asked, is_done, is_srd, prm_asked}
use Rattle.judge_rules.specs.ExchangeRules.{is_past}
use Rattle.judge_rules.specs.Stages.{is_parametrized}
use Rattle.judge_rules.specs.Stations.{new_station, station_of, watchdog_after, watchdog_by, watchdog_given}
use Rattle.judge_rules.specs.StationWords.{sets_watchdog}
use Rattle.judge_rules.proofs.Bools.{and_false, second}
use Rattle.judge_rules.proofs.Controls.{controlled_at, never_controlled}
use Rattle.judge_rules.proofs.LastRequests.{last_is}
use Rattle.judge_rules.proofs.Since.{kept, since}
use Rattle.std.proofs.lemmas.Bool.{and_parts}
use Rattle.judge_rules.proofs.exchange_laws.a_gap_of_the_watchdog_time_is_reported.Goals as goal

stays_by : (watchdog time : Option ℕ) (asked : Asked) (answer : Answer) → not (sets_watchdog (effect_of_prm asked answer)) ≡ true
    → (if is_done answer then watchdog_by watchdog time asked else watchdog) ≡ watchdog
stays_by watchdog time asks.Lock answers.Done other = absurd cc
stays_by watchdog time asks.Unlock answers.Done other = absurd cc
stays_by watchdog time asks.Short answers.Done other = absurd cc
stays_by watchdog time asks.MinTsdr answers.Done other = refl
stays_by watchdog time asked answer other = refl

stays_for : (watchdog : Option ℕ) (r : Request) (asked : Option Parameters) → not (sets_watchdog (effect_by r asked)) ≡ true → watchdog_given watchdog r.answer asked ≡ watchdog
stays_for watchdog r (Some parameters) other = stays_by watchdog parameters.watchdog parameters.asked r.answer other
stays_for watchdog r None other = refl

stays : (x watchdog : Option ℕ) (r : Request) → watchdog ≡ x → not (sets_watchdog (effect r)) ≡ true → watchdog_after watchdog r ≡ x
stays x watchdog r now other = stays_for watchdog r (prm_asked r) other ∙ now

set_by : (watchdog time : Option ℕ) (asked : Asked) (answer : Answer) → effect_of_prm asked answer ≡ locks → (if is_done answer then watchdog_by watchdog time asked else watchdog) ≡ time
set_by watchdog time asks.Lock answers.Done is = refl
set_by watchdog time asks.Unlock answers.Done is = absurd cc
set_by watchdog time asks.Short answers.Done is = absurd cc
set_by watchdog time asked answer is = absurd cc

set_now : (watchdog : Option ℕ) (r : Request) (parameters : Parameters) → effect r ≡ locks → prm_asked r ≡ Some parameters → watchdog_after watchdog r ≡ parameters.watchdog
set_now watchdog r parameters is asked =
    ap (λ (o : Option Parameters). watchdog_given watchdog r.answer o) asked
    ∙ set_by watchdog parameters.watchdog parameters.asked r.answer (ap (λ (o : Option Parameters). effect_by r o) (sym asked) ∙ is)

released_by : (watchdog time : Option ℕ) (asked : Asked) (answer : Answer) → effect_of_prm asked answer ≡ releases
    → (if is_done answer then watchdog_by watchdog time asked else watchdog) ≡ None
released_by watchdog time asks.Lock answers.Done is = absurd cc
released_by watchdog time asks.Unlock answers.Done is = refl
released_by watchdog time asks.Short answers.Done is = refl
released_by watchdog time asked answer is = absurd cc

diag_releases : (answer : Answer) → effect_of_diag answer ≡ releases → ⊥
diag_releases (answers.Diagnosis diagnosis) is = cc
diag_releases other is = cc

exchange_releases : (answer : Answer) → effect_of_exchange answer ≡ releases → ⊥
exchange_releases answers.Done is = cc
exchange_releases answers.Dh is = cc
exchange_releases answers.Rs is = cc
exchange_releases other is = cc

chk_cfg_releases : (done : Bool) → (if done then configures else nothing) ≡ releases → ⊥
chk_cfg_releases true is = cc
chk_cfg_releases false is = cc

other_releases : (answer : Answer) (diag chk exchange : Bool)
    → (if diag then effect_of_diag answer else if chk then if is_done answer then configures else nothing else if exchange then effect_of_exchange answer else nothing) ≡ releases → ⊥
other_releases answer true chk exchange is = diag_releases answer is
other_releases answer false true exchange is = chk_cfg_releases (is_done answer) is
other_releases answer false false true is = exchange_releases answer is
other_releases answer false false false is = cc

released_for : (watchdog : Option ℕ) (r : Request) (asked : Option Parameters) → effect_by r asked ≡ releases → watchdog_given watchdog r.answer asked ≡ None
released_for watchdog r (Some parameters) is = released_by watchdog parameters.watchdog parameters.asked r.answer is
released_for watchdog r None is = absurd (other_releases r.answer (diag_asked r) (chk_cfg_asked r) (exchange_asked r) is)

no_past : (srd has : Bool) (controlled : ℕ) (last : Option Last) (time : ℕ) (watchdog : Option ℕ) → watchdog ≡ None
    → (srd && has && is_past watchdog controlled last time) ≡ false
no_past srd has controlled last time watchdog is = ap (λ (w : Option ℕ). srd && has && is_past w controlled last time) is ∙ and_false (srd && has)

not_not : (b : Bool) → not b ≡ false → b ≡ true
not_not true is = refl
not_not false is = absurd cc

not_true : (b : Bool) → not b ≡ true → b ≡ false
not_true true is = absurd cc
not_true false is = refl

past_by : (srd has gap : Bool) → has ≡ true → (srd && has && gap) ≡ (srd && gap)
past_by true true gap is = refl
past_by false true gap is = refl
past_by srd false gap is = absurd cc

without : (srd has gap : Bool) → has ≡ false → (srd && has && gap) ≡ false
without true false gap is = refl
without false false gap is = refl
without srd true gap is = absurd cc

-- a gap since the last SRD and this time of a Global_Control
gap_since : (past front back earlier later : List Entry) (setting before configuration request : Request) (parameters : Parameters) (limit watchdog controlled : ℕ)
    → past ≡ front ++ entries.Request setting ∷ back → setting.address ≡ request.address → effect setting ≡ locks → prm_asked setting ≡ Some parameters
    → parameters.watchdog ≡ Some watchdog → have_no_effect sets_watchdog request.address back ≡ true
    → past ≡ earlier ++ entries.Request before ∷ later → is_srd_to request.address (entries.Request before) ≡ true → have_no_srd_to request.address later ≡ true
    → (bus_of past).controlled ≡ controlled
    → configuration.address ≡ request.address → chk_cfg_asked configuration ≡ true → breaks limit past (entries.Request configuration) rules.CfgBeforePrm ≡ false
    → breaks limit past (entries.Request request) rules.WatchdogShort ≡ (is_srd request && nat_le watchdog (request.time - max before.time controlled))
gap_since past front back earlier later setting before configuration request parameters limit watchdog controlled split at is asked time none cut here no_srd controlled_is there chk right =
    past_by (is_srd request) (is_parametrized (station_of request.address past).stage)
    (is_past (station_of request.address past).watchdog (bus_of past).controlled (station_of request.address past).last request.time)
    (ap (λ (a : ℕ). is_parametrized (station_of a past).stage) (sym there)
    ∙ not_not (is_parametrized (station_of configuration.address past).stage)
    (second (chk_cfg_asked configuration) (not (is_parametrized (station_of configuration.address past).stage)) false chk right))
    ∙ ap (λ (w : Option ℕ). is_srd request && is_past w (bus_of past).controlled (station_of request.address past).last request.time)
    (ap (λ (all : List Entry). (station_of request.address all).watchdog) split
    ∙ since (λ s. s.watchdog) (Some watchdog) (λ r. sets_watchdog (effect r)) (λ s r now other. stays (Some watchdog) s.watchdog r now other) request.address front back setting at
    (set_now (station_of request.address front).watchdog setting parameters is asked ∙ time) none)
    ∙ ap (λ (last : Option Last). is_srd request && is_past (Some watchdog) (bus_of past).controlled last request.time)
    (ap (λ (all : List Entry). (station_of request.address all).last) cut ∙ last_is request.address earlier later before here no_srd)
    ∙ ap (λ (t : ℕ). is_srd request && nat_le watchdog (request.time - max before.time t)) controlled_is

max_zero : (n : ℕ) → max n 0 ≡ n
max_zero n = omega arith

pub returns-clause-gap : goal.returns-clause-gap
returns-clause-gap c limit watchdog past front back earlier later setting before configuration request parameters split at is asked time none cut here no_srd uncontrolled there chk right =
    gap_since past front back earlier later setting before configuration request parameters limit watchdog 0 split at is asked time none cut here no_srd
    (never_controlled past uncontrolled) there chk right
    ∙ ap (λ (t : ℕ). is_srd request && nat_le watchdog (request.time - t)) (max_zero before.time)

pub returns-clause-controlled : goal.returns-clause-controlled
returns-clause-controlled c limit watchdog past front back earlier later others behind setting before control configuration request parameters split at is asked time none cut here no_srd found controls none_behind there chk right =
    gap_since past front back earlier later setting before configuration request parameters limit watchdog control.time split at is asked time none cut here no_srd
    (ap (λ (all : List Entry). (bus_of all).controlled) found ∙ controlled_at others behind control controls none_behind) there chk right

pub returns-clause-no_watchdog : goal.returns-clause-no_watchdog
returns-clause-no_watchdog c limit front back setting request parameters at is asked time none =
    let all : List Entry = front ++ entries.Request setting ∷ back in
    no_past (is_srd request) (is_parametrized (station_of request.address all).stage) (bus_of all).controlled (station_of request.address all).last request.time (station_of request.address all).watchdog
    (since (λ s. s.watchdog) None (λ r. sets_watchdog (effect r)) (λ s r now other. stays None s.watchdog r now other) request.address front back setting at
    (set_now (station_of request.address front).watchdog setting parameters is asked ∙ time) none)

pub returns-clause-released : goal.returns-clause-released
returns-clause-released c limit front back setting request at is none =
    let all : List Entry = front ++ entries.Request setting ∷ back in
    no_past (is_srd request) (is_parametrized (station_of request.address all).stage) (bus_of all).controlled (station_of request.address all).last request.time (station_of request.address all).watchdog
    (since (λ s. s.watchdog) None (λ r. sets_watchdog (effect r)) (λ s r now other. stays None s.watchdog r now other) request.address front back setting at
    (released_for (station_of request.address front).watchdog setting (prm_asked setting) is) none)

pub returns-clause-never_set : goal.returns-clause-never_set
returns-clause-never_set c limit past request none =
    no_past (is_srd request) (is_parametrized (station_of request.address past).stage) (bus_of past).controlled (station_of request.address past).last request.time (station_of request.address past).watchdog
    (kept (λ s. s.watchdog) None (λ r. sets_watchdog (effect r)) (λ s r now other. stays None s.watchdog r now other) request.address new_station past refl none)

pub returns-clause-no_parameters : goal.returns-clause-no_parameters
returns-clause-no_parameters c limit past configuration request there reported =
    without (is_srd request) (is_parametrized (station_of request.address past).stage)
    (is_past (station_of request.address past).watchdog (bus_of past).controlled (station_of request.address past).last request.time)
    (ap (λ (a : ℕ). is_parametrized (station_of a past).stage) (sym there)
    ∙ not_true (is_parametrized (station_of configuration.address past).stage)
    (and_parts (chk_cfg_asked configuration) (not (is_parametrized (station_of configuration.address past).stage)) reported).1)
