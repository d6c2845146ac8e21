use Rattle.std.proofs.Common.{◌≡◌, Bool, true, false, refl}
use Rattle.std.specs.Prelude.{◌&&◌, ◌||◌}
use Rattle.judge_rules.specs.declared.stage.Stage.{Stage}
use Rattle.judge_rules.specs.declared.stage.Stage.TheVariants as stages
use Rattle.judge_rules.specs.BringUpRules.{is_before_ready, is_configured, is_lost, is_taken}
use Rattle.judge_rules.specs.Entries.{exchange_asked}
use Rattle.judge_rules.specs.Stations.{station_of}
use Rattle.judge_rules.proofs.bring_up_laws.a_data_exchange_comes_too_early_in_one_way.Goals as goal

before_ready : (asked : Bool) (stage : Stage) → (asked && is_before_ready stage) ≡ true
    → (asked && is_configured stage || asked && is_lost stage || asked && is_taken stage) ≡ false
before_ready false stage is = refl
before_ready true stages.Unseen is = refl
before_ready true stages.Idle is = refl
before_ready true stages.Parametrized is = refl
before_ready true stages.NotReady is = refl
before_ready true stage is = absurd cc

without_diag : (asked : Bool) (stage : Stage) → (asked && is_configured stage) ≡ true → (asked && is_lost stage || asked && is_taken stage) ≡ false
without_diag false stage is = refl
without_diag true stages.Configured is = refl
without_diag true stage is = absurd cc

after_rs : (asked : Bool) (stage : Stage) → (asked && is_lost stage) ≡ true → (asked && is_taken stage) ≡ false
after_rs false stage is = refl
after_rs true stages.Lost is = refl
after_rs true stage is = absurd cc

pub returns-clause-before_ready : goal.returns-clause-before_ready
returns-clause-before_ready c limit past request is = before_ready (exchange_asked request) (station_of request.address past).stage is

pub returns-clause-without_diag : goal.returns-clause-without_diag
returns-clause-without_diag c limit past request is = without_diag (exchange_asked request) (station_of request.address past).stage is

pub returns-clause-after_rs : goal.returns-clause-after_rs
returns-clause-after_rs c limit past request is = after_rs (exchange_asked request) (station_of request.address past).stage is
