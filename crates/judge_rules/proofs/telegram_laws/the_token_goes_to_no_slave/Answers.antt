use Rattle.judge_rules.proofs.Tokens.{answered_once, answered_never}
use Rattle.judge_rules.proofs.telegram_laws.the_token_goes_to_no_slave.Goals as goal

pub returns-clause-slave : goal.returns-clause-slave
returns-clause-slave c limit front back request is = answered_once front back request is

pub returns-clause-other : goal.returns-clause-other
returns-clause-other c limit to past none = answered_never to past none
