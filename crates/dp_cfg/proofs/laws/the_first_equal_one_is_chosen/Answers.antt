use Rattle.dp_cfg.proofs.Choices.{first_is_equal, first_equal_is_chosen, none_is_equal, none_is_chosen}
use Rattle.dp_cfg.proofs.laws.the_first_equal_one_is_chosen.Goals as goal

pub returns-clause-first : goal.returns-clause-first
returns-clause-first c = λ configurations octets number. (first_is_equal configurations octets number, first_equal_is_chosen configurations octets number)

pub returns-clause-none : goal.returns-clause-none
returns-clause-none c = λ configurations octets. (none_is_equal configurations octets, none_is_chosen configurations octets)
