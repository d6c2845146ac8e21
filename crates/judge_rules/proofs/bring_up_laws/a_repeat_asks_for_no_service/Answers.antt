use Rattle.std.proofs.Common.{◌≡◌, ℕ, Bool, true, false, not, List, [], ◌∷◌, ◌++◌, Option, None, ap, refl, sym, ◌∙◌}
use Rattle.std.specs.Prelude.{◌==◌, ◌&&◌, ◌||◌, is_some, if◌then◌else◌}
use Rattle.std.specs.List.{fold}
use Rattle.std.proofs.lemmas.List.Sums.{fold-append}
use Rattle.dp_telegram.specs.Access.{global_address}
use Rattle.judge_rules.specs.declared.bus.Bus.{Bus}
use Rattle.judge_rules.specs.declared.entry.Answer.{Answer}
use Rattle.judge_rules.specs.declared.entry.Answer.TheVariants as answers
use Rattle.judge_rules.specs.declared.entry.Entry.{Entry}
use Rattle.judge_rules.specs.declared.entry.Entry.TheVariants as entries
use Rattle.judge_rules.specs.declared.entry.Request.{Request}
use Rattle.judge_rules.specs.declared.rule.JudgeRule.{JudgeRule}
use Rattle.judge_rules.specs.declared.rule.JudgeRule.TheVariants as rules
use Rattle.judge_rules.specs.declared.stage.Stage.{Stage}
use Rattle.judge_rules.specs.declared.station.Station.{Station}
use Rattle.judge_rules.specs.BringUpRules.{is_before_ready, is_configured, is_lost, is_taken, is_unseen, is_without_lock}
use Rattle.judge_rules.specs.BusFacts.{bus_of}
use Rattle.judge_rules.specs.Entries.{chk_cfg_asked, diagnosis_in, exchange_asked, is_chk_cfg, is_data_exchange, is_done, is_repeat_answer, is_rr, is_rs, is_served, is_slave_diag, is_srd, is_ue, parameters_of, prm_asked}
use Rattle.judge_rules.specs.ExchangeRules.{is_third, may_exchange}
use Rattle.judge_rules.specs.LawWords.{is_of_a_service}
use Rattle.judge_rules.specs.ParameterRules.{has_lock_and_unlock, has_low_min_tsdr, has_reserved, has_short, sets_watchdog_zero}
use Rattle.judge_rules.specs.Rules.{broken_by}
use Rattle.judge_rules.specs.Stages.{after_chk_cfg, after_diag, after_exchange, after_service, is_parametrized, stage_after}
use Rattle.judge_rules.specs.Stations.{new_station, one_more, station_after, station_of, station_with, unread_after, wrong_length_after}
use Rattle.judge_rules.proofs.Bools.{and_false}
use Rattle.judge_rules.proofs.bring_up_laws.a_repeat_asks_for_no_service.Goals as goal

unserved : (r : Request) → r.answer ≡ answers.Repeat → is_served r ≡ false
unserved r is =
    ap (λ (a : Answer). is_srd r && not (r.address == global_address) && not (is_repeat_answer a)) is
    ∙ and_false (is_srd r && not (r.address == global_address))

pub judged : (limit : ℕ) (bus : Bus) (station : Station) (r : Request) (rule : JudgeRule) → is_served r ≡ false → is_of_a_service rule ≡ true
    → broken_by limit bus station r rule ≡ false
judged limit bus station r rules.PrmBeforeDiag is of = ap (λ (b : Bool). is_some (if b then parameters_of r.service else None) && is_unseen station.stage) is
judged limit bus station r rules.PrmWithoutLock is of = ap (λ (b : Bool). is_without_lock (if b then parameters_of r.service else None) && not (is_parametrized station.stage)) is
judged limit bus station r rules.CfgBeforePrm is of = ap (λ (b : Bool). b && is_chk_cfg r.service && not (is_parametrized station.stage)) is
judged limit bus station r rules.ExchangeBeforeReady is of = ap (λ (b : Bool). b && is_data_exchange r.service && is_before_ready station.stage) is
judged limit bus station r rules.ExchangeWithoutDiag is of = ap (λ (b : Bool). b && is_data_exchange r.service && is_configured station.stage) is
judged limit bus station r rules.ExchangeAfterRs is of = ap (λ (b : Bool). b && is_data_exchange r.service && is_lost station.stage) is
judged limit bus station r rules.ExchangeOfOther is of = ap (λ (b : Bool). b && is_data_exchange r.service && is_taken station.stage) is
judged limit bus station r rules.LengthRepeated is of = ap (λ (b : Bool). b && is_data_exchange r.service && is_ue r.answer && station.wrong_length) is
judged limit bus station r rules.DiagNotRead is of = ap (λ (b : Bool). b && is_data_exchange r.service && is_third station.unread) is
judged limit bus station r rules.PrmOfOther is of = ap (λ (b : Bool). is_some (if b then parameters_of r.service else None) && is_taken station.stage) is
judged limit bus station r rules.ExtensionMissing is of = ap (λ (b : Bool). b && is_data_exchange r.service && r.payload.has_points && (is_ue r.answer || is_rs r.answer && not (may_exchange station.stage))) is
judged limit bus station r rules.PrmShort is of = ap (λ (b : Bool). has_short (if b then parameters_of r.service else None)) is
judged limit bus station r rules.PrmReserved is of = ap (λ (b : Bool). has_reserved (if b then parameters_of r.service else None)) is
judged limit bus station r rules.LockAndUnlock is of = ap (λ (b : Bool). has_lock_and_unlock (if b then parameters_of r.service else None)) is
judged limit bus station r rules.WatchdogZero is of = ap (λ (b : Bool). sets_watchdog_zero (if b then parameters_of r.service else None)) is
judged limit bus station r rules.MinTsdr is of = ap (λ (b : Bool). has_low_min_tsdr (if b then parameters_of r.service else None)) is
judged limit bus station r rule is of = absurd cc

pub returns-clause-judged : goal.returns-clause-judged
returns-clause-judged c limit past request rule is of = judged limit (bus_of past) (station_of request.address past) request rule (unserved request is) of

-- what these rules read of two stations is the same
record Agrees (s t : Station) : Type 0 where
  stage : s.stage ≡ t.stage
  wrong_length : s.wrong_length ≡ t.wrong_length
  unread : s.unread ≡ t.unread

stage_left : (stage : Stage) (r : Request) → is_served r ≡ false → stage_after stage r ≡ stage
stage_left stage r is =
    ap (λ (b : Bool). after_service stage r (if b then parameters_of r.service else None)) is
    ∙ ap (λ (b : Bool). if b && is_slave_diag r.service then after_diag stage r.answer else if b && is_chk_cfg r.service then after_chk_cfg stage r.answer else if b && is_data_exchange r.service then after_exchange stage r.answer else stage) is

or_false : (b : Bool) → (b || false) ≡ b
or_false true = refl
or_false false = refl

wrong_left : (wrong : Bool) (r : Request) → is_served r ≡ false → wrong_length_after wrong r ≡ wrong
wrong_left wrong r is =
    ap (λ (b : Bool). if is_some (if b then parameters_of r.service else None) && is_done r.answer then false else wrong || b && is_data_exchange r.service && is_ue r.answer) is
    ∙ or_false wrong

unread_left : (unread : Option ℕ) (r : Request) → is_served r ≡ false → unread_after unread r ≡ unread
unread_left unread r is =
    ap (λ (b : Bool). if b && is_slave_diag r.service && (is_some (diagnosis_in r.answer) || is_rr r.answer) then None else if is_some (if b then parameters_of r.service else None) && is_done r.answer then None else if b && is_data_exchange r.service then one_more unread r.answer else unread) is

either : (at : Bool) (s t u v : Station) → Agrees s t → Agrees u v → Agrees (if at then s else u) (if at then t else v)
either true s t u v yes_agree no_agree = yes_agree
either false s t u v yes_agree no_agree = no_agree

itself : (at : Bool) (s after : Station) → Agrees after s → Agrees (if at then after else s) s
itself true s after agree = agree
itself false s after agree = record { stage = refl; wrong_length = refl; unread = refl }

next : (s t : Station) (r : Request) → Agrees s t → Agrees (station_after s r) (station_after t r)
next s t r agree = record {
  stage = ap (λ (stage : Stage). stage_after stage r) agree.stage;
  wrong_length = ap (λ (wrong : Bool). wrong_length_after wrong r) agree.wrong_length;
  unread = ap (λ (unread : Option ℕ). unread_after unread r) agree.unread;
}

all : (address : ℕ) (s t : Station) (back : List Entry) → Agrees s t → Agrees (fold (station_with address) s back) (fold (station_with address) t back)
all address s t [] agree = agree
all address s t (entries.Request r ∷ back) agree =
    all address (station_with address s (entries.Request r)) (station_with address t (entries.Request r)) back
    (either (r.address == address) (station_after s r) (station_after t r) s t (next s t r agree) agree)
all address s t (entries.PassedToken to ∷ back) agree = all address s t back agree
all address s t (entries.Stray ∷ back) agree = all address s t back agree

unchanged : (s : Station) (r : Request) → is_served r ≡ false → Agrees (station_after s r) s
unchanged s r is = record { stage = stage_left s.stage r is; wrong_length = wrong_left s.wrong_length r is; unread = unread_left s.unread r is }

agree_at : (address : ℕ) (front back : List Entry) (r : Request) → is_served r ≡ false
    → Agrees (fold (station_with address) (station_of address front) (entries.Request r ∷ back)) (fold (station_with address) (station_of address front) back)
agree_at address front back r is =
    all address (station_with address (station_of address front) (entries.Request r)) (station_of address front) back
    (itself (r.address == address) (station_of address front) (station_after (station_of address front) r) (unchanged (station_of address front) r is))

same : (limit : ℕ) (bus other : Bus) (s t : Station) (r : Request) (rule : JudgeRule) → Agrees s t → is_of_a_service rule ≡ true
    → broken_by limit bus s r rule ≡ broken_by limit other t r rule
same limit bus other s t r rules.PrmBeforeDiag agree of = ap (λ (stage : Stage). is_some (prm_asked r) && is_unseen stage) agree.stage
same limit bus other s t r rules.PrmWithoutLock agree of = ap (λ (stage : Stage). is_without_lock (prm_asked r) && not (is_parametrized stage)) agree.stage
same limit bus other s t r rules.CfgBeforePrm agree of = ap (λ (stage : Stage). chk_cfg_asked r && not (is_parametrized stage)) agree.stage
same limit bus other s t r rules.ExchangeBeforeReady agree of = ap (λ (stage : Stage). exchange_asked r && is_before_ready stage) agree.stage
same limit bus other s t r rules.ExchangeWithoutDiag agree of = ap (λ (stage : Stage). exchange_asked r && is_configured stage) agree.stage
same limit bus other s t r rules.ExchangeAfterRs agree of = ap (λ (stage : Stage). exchange_asked r && is_lost stage) agree.stage
same limit bus other s t r rules.ExchangeOfOther agree of = ap (λ (stage : Stage). exchange_asked r && is_taken stage) agree.stage
same limit bus other s t r rules.LengthRepeated agree of = ap (λ (wrong : Bool). exchange_asked r && is_ue r.answer && wrong) agree.wrong_length
same limit bus other s t r rules.DiagNotRead agree of = ap (λ (unread : Option ℕ). exchange_asked r && is_third unread) agree.unread
same limit bus other s t r rules.PrmOfOther agree of = ap (λ (stage : Stage). is_some (prm_asked r) && is_taken stage) agree.stage
same limit bus other s t r rules.ExtensionMissing agree of = ap (λ (stage : Stage). exchange_asked r && r.payload.has_points && (is_ue r.answer || is_rs r.answer && not (may_exchange stage))) agree.stage
same limit bus other s t r rules.PrmShort agree of = refl
same limit bus other s t r rules.PrmReserved agree of = refl
same limit bus other s t r rules.LockAndUnlock agree of = refl
same limit bus other s t r rules.MinTsdr agree of = refl
same limit bus other s t r rules.WatchdogZero agree of = refl
same limit bus other s t r rule agree of = absurd cc

pub returns-clause-after : goal.returns-clause-after
returns-clause-after c limit front back repeat request rule is of =
    ap (λ (s : Station). broken_by limit (bus_of (front ++ entries.Request repeat ∷ back)) s request rule)
    (fold-append (station_with request.address) new_station front (entries.Request repeat ∷ back))
    ∙ same limit (bus_of (front ++ entries.Request repeat ∷ back)) (bus_of (front ++ back))
    (fold (station_with request.address) (station_of request.address front) (entries.Request repeat ∷ back)) (fold (station_with request.address) (station_of request.address front) back)
    request rule (agree_at request.address front back repeat (unserved repeat is)) of
    ∙ ap (λ (s : Station). broken_by limit (bus_of (front ++ back)) s request rule) (sym (fold-append (station_with request.address) new_station front back))
