use Rattle.explain_texts.proofs.ChangesReported.{all_ended}
use Rattle.explain_texts.proofs.laws.every_hold_that_ended_is_written.Goals as goal

pub returns : goal.returns
returns c = all_ended c.an_event_goes_one_of_four_ways.ensures c.every_line_has.ensures
