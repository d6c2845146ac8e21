use Rattle.std.proofs.Common.{Option, ap}
use Rattle.std.specs.Prelude.{◌&&◌, is_some}
use Rattle.judge_rules.specs.declared.entry.Control.{Control}
use Rattle.judge_rules.specs.Entries.{is_none_selected}
use Rattle.judge_rules.specs.ParameterRules.{sets_both, sets_reserved}
use Rattle.judge_rules.proofs.telegram_laws.a_global_control_is_judged_by_its_bits_and_groups.Goals as goal

pub returns-clause-both : goal.returns-clause-both
returns-clause-both c limit past request control is = ap (λ (o : Option Control). sets_both o) is

pub returns-clause-reserved : goal.returns-clause-reserved
returns-clause-reserved c limit past request control is = ap (λ (o : Option Control). sets_reserved o) is

pub returns-clause-group : goal.returns-clause-group
returns-clause-group c limit past request control is = ap (λ (o : Option Control). is_some o && is_none_selected request.answer) is

pub returns-clause-not_both : goal.returns-clause-not_both
returns-clause-not_both c limit past request is = ap (λ (o : Option Control). sets_both o) is

pub returns-clause-not_reserved : goal.returns-clause-not_reserved
returns-clause-not_reserved c limit past request is = ap (λ (o : Option Control). sets_reserved o) is

pub returns-clause-no_group : goal.returns-clause-no_group
returns-clause-no_group c limit past request is = ap (λ (o : Option Control). is_some o && is_none_selected request.answer) is
