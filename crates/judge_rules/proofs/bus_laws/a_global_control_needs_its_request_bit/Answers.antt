use Rattle.std.proofs.Common.{Bool, not, Option, ap, ◌∙◌}
use Rattle.std.specs.Prelude.{◌&&◌, ◌||◌}
use Rattle.judge_rules.specs.declared.entry.Control.{Control}
use Rattle.judge_rules.specs.BusFacts.{bus_of}
use Rattle.judge_rules.specs.BusWords.{have_no_freeze_prm}
use Rattle.judge_rules.specs.ParameterRules.{sets_unasked}
use Rattle.judge_rules.proofs.Clears.{freeze_never, sync_never}
use Rattle.judge_rules.proofs.bus_laws.a_global_control_needs_its_request_bit.Goals as goal

pub returns-clause-control : goal.returns-clause-control
returns-clause-control c limit past request control is =
    ap (λ (o : Option Control). sets_unasked (bus_of past).freeze_asked (bus_of past).sync_asked o) is
    ∙ ap (λ (b : Bool). control.freeze && not control.unfreeze && b || control.sync && not control.unsync && not (bus_of past).sync_asked) (freeze_never past)
    ∙ ap (λ (b : Bool). control.freeze && not control.unfreeze && have_no_freeze_prm past || control.sync && not control.unsync && b) (sync_never past)

pub returns-clause-other : goal.returns-clause-other
returns-clause-other c limit past request is = ap (λ (o : Option Control). sets_unasked (bus_of past).freeze_asked (bus_of past).sync_asked o) is
