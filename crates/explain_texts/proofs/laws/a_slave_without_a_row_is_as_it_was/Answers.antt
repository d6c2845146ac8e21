use Rattle.explain_texts.proofs.ChangesReported.{all_rows}
use Rattle.explain_texts.proofs.UnchangedSlaves.{no_row, untouched}
use Rattle.explain_texts.proofs.laws.a_slave_without_a_row_is_as_it_was.Goals as goal

pub returns-clause-untouched : goal.returns-clause-untouched
returns-clause-untouched c = untouched c.an_event_goes_one_of_four_ways.ensures c.every_line_has.ensures

pub returns-clause-no_row : goal.returns-clause-no_row
returns-clause-no_row c = no_row

pub returns-clause-all_rows : goal.returns-clause-all_rows
returns-clause-all_rows c = all_rows c.an_event_goes_one_of_four_ways.ensures c.every_line_has.ensures
