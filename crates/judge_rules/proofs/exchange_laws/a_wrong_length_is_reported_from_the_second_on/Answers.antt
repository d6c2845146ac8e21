use Rattle.std.proofs.Common.{◌≡◌, Bool, true, false, not, ap, refl, ◌∙◌}
use Rattle.std.specs.Prelude.{◌&&◌, ◌||◌, if◌then◌else◌, is_some}
use Rattle.std.proofs.lemmas.Bool.{and_parts}
use Rattle.judge_rules.specs.declared.entry.Answer.{Answer}
use Rattle.judge_rules.specs.declared.entry.Answer.TheVariants as answers
use Rattle.judge_rules.specs.declared.entry.Request.{Request}
use Rattle.judge_rules.specs.Entries.{exchange_asked, is_done, is_ue, prm_asked}
use Rattle.judge_rules.specs.Stations.{is_acknowledged_prm, new_station, station_of, wrong_length_after}
use Rattle.judge_rules.specs.StationWords.{is_wrong_length}
use Rattle.judge_rules.proofs.Bools.{and_false, and_true}
use Rattle.judge_rules.proofs.Since.{kept, since}
use Rattle.judge_rules.proofs.exchange_laws.a_wrong_length_is_reported_from_the_second_on.Goals as goal

stays : (acknowledged wrong new : Bool) → wrong ≡ true → not acknowledged ≡ true → (if acknowledged then false else wrong || new) ≡ true
stays true wrong new now other = absurd cc
stays false true new now other = refl
stays false false new now other = absurd cc

stays_none : (acknowledged wrong new : Bool) → wrong ≡ false → not new ≡ true → (if acknowledged then false else wrong || new) ≡ false
stays_none true wrong new now other = refl
stays_none false true new now other = absurd cc
stays_none false false true now other = absurd cc
stays_none false false false now other = refl

ue_is_other : (answer : Answer) → is_ue answer ≡ true → is_done answer ≡ false
ue_is_other answers.Ue is = refl
ue_is_other other is = absurd cc

begins : (acknowledged wrong : Bool) → acknowledged ≡ false → (if acknowledged then false else wrong || true) ≡ true
begins true wrong is = absurd cc
begins false true is = refl
begins false false is = refl

wrong_now : (wrong : Bool) (r : Request) → is_wrong_length r ≡ true → wrong_length_after wrong r ≡ true
wrong_now wrong r is =
    ap (λ (b : Bool). if is_acknowledged_prm r then false else wrong || b) is
    ∙ begins (is_acknowledged_prm r) wrong
    (ap (λ (b : Bool). is_some (prm_asked r) && b) (ue_is_other r.answer (and_parts (exchange_asked r) (is_ue r.answer) is).1) ∙ and_false (is_some (prm_asked r)))

pub returns-clause-none : goal.returns-clause-none
returns-clause-none c limit past request none =
    ap (λ (b : Bool). is_wrong_length request && b)
    (kept (λ s. s.wrong_length) false is_wrong_length
    (λ s r now other. stays_none (is_acknowledged_prm r) s.wrong_length (is_wrong_length r) now other) request.address new_station past refl none)
    ∙ and_false (is_wrong_length request)

pub returns-clause-again : goal.returns-clause-again
returns-clause-again c limit front back before request at is none =
    ap (λ (b : Bool). is_wrong_length request && b)
    (since (λ s. s.wrong_length) true is_acknowledged_prm
    (λ s r now other. stays (is_acknowledged_prm r) s.wrong_length (is_wrong_length r) now other) request.address front back before at
    (wrong_now (station_of request.address front).wrong_length before is) none)
    ∙ and_true (is_wrong_length request)

pub returns-clause-acknowledged : goal.returns-clause-acknowledged
returns-clause-acknowledged c limit front back before request at is none =
    ap (λ (b : Bool). is_wrong_length request && b)
    (since (λ s. s.wrong_length) false is_wrong_length
    (λ s r now other. stays_none (is_acknowledged_prm r) s.wrong_length (is_wrong_length r) now other) request.address front back before at
    (ap (λ (b : Bool). if b then false else (station_of request.address front).wrong_length || is_wrong_length before) is) none)
    ∙ and_false (is_wrong_length request)
