use Rattle.std.proofs.Common.{Option, not, ap}
use Rattle.std.specs.Prelude.{◌==◌, ◌&&◌, is_some}
use Rattle.judge_rules.specs.declared.entry.Control.{Control}
use Rattle.judge_rules.proofs.coding_laws.a_global_control_has_two_octets.Goals as goal

pub returns-clause-control : goal.returns-clause-control
returns-clause-control c limit past request control is = ap (λ (o : Option Control). is_some o && not (request.payload.count == 2)) is

pub returns-clause-other : goal.returns-clause-other
returns-clause-other c limit past request is = ap (λ (o : Option Control). is_some o && not (request.payload.count == 2)) is
