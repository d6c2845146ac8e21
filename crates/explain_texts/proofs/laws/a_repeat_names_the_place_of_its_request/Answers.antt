use Rattle.explain_texts.proofs.Repeated.{placed, repeats, replied_telegram, retry_reported, other_reported}
use Rattle.explain_texts.proofs.laws.a_repeat_names_the_place_of_its_request.Goals as goal

pub returns-clause-telegram : goal.returns-clause-telegram
returns-clause-telegram c = replied_telegram

pub returns-clause-request : goal.returns-clause-request
returns-clause-request c = repeats

pub returns-clause-placed : goal.returns-clause-placed
returns-clause-placed c = placed

pub returns-clause-retry : goal.returns-clause-retry
returns-clause-retry c = retry_reported

pub returns-clause-other : goal.returns-clause-other
returns-clause-other c = other_reported
