use Rattle.std.proofs.Common.{◌∙◌}
use Rattle.dp_cfg.proofs.Choices.{choice_is, no_choice, choice_among_all, choice_is_within}
use Rattle.dp_cfg.proofs.choosing.choose.Goals as goal

pub returns-in_err-number-clause-value : goal.returns-in_err-number-clause-value
returns-in_err-number-clause-value c =
    c.from_residual.ensures ∙ no_choice c.args.configurations.now c.args.octets.now c.in_err-number.ensures

pub returns-in_err-number-clause-few : goal.returns-in_err-number-clause-few
returns-in_err-number-clause-few c = λ few. returns-in_err-number-clause-value c ∙ choice_among_all c.args.configurations.now c.args.octets.now few

pub returns-clause-value : goal.returns-clause-value
returns-clause-value c =
    c.ok.ensures.value ∙ choice_is c.args.configurations.now c.args.octets.now c.in_ok-number.number c.try_from.result c.in_ok-number.ensures c.try_from.ensures

pub returns-clause-few : goal.returns-clause-few
returns-clause-few c = λ few. returns-clause-value c ∙ choice_among_all c.args.configurations.now c.args.octets.now few

pub returns-clause-bound : goal.returns-clause-bound
returns-clause-bound c = choice_is_within c.args.configurations.now c.args.octets.now c.ok.result (returns-clause-value c)
