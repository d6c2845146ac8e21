use Rattle.std.proofs.Common.{ℕ, Bool, not, Option, ap, sym, ◌∙◌}
use Rattle.std.specs.Prelude.{◌&&◌}
use Rattle.judge_rules.specs.declared.entry.Asked.{Asked}
use Rattle.judge_rules.specs.declared.entry.Parameters.{Parameters}
use Rattle.judge_rules.specs.BringUpRules.{is_min_tsdr_alone, is_without_lock}
use Rattle.judge_rules.specs.Stages.{is_parametrized}
use Rattle.judge_rules.specs.Stations.{station_of}
use Rattle.judge_rules.proofs.bring_up_laws.a_set_prm_without_lock_gives_no_parameters.Goals as goal

pub returns-clause-asked : goal.returns-clause-asked
returns-clause-asked c limit past configuration request parameters is alone at asks =
    ap (λ (o : Option Parameters). is_without_lock o && not (is_parametrized (station_of request.address past).stage)) is
    ∙ ap (λ (a : Asked). is_min_tsdr_alone a && not (is_parametrized (station_of request.address past).stage)) alone
    ∙ sym (ap (λ (n : ℕ). not (is_parametrized (station_of n past).stage)) at)
    ∙ sym (ap (λ (b : Bool). b && not (is_parametrized (station_of configuration.address past).stage)) asks)

pub returns-clause-other : goal.returns-clause-other
returns-clause-other c limit past request is = ap (λ (b : Bool). b && not (is_parametrized (station_of request.address past).stage)) is
