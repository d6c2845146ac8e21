use Rattle.explain_texts.proofs.ReportedAgain.{reported_by_entries}
use Rattle.explain_texts.proofs.laws.a_legal_text_is_explained_by_its_entries.Goals as goal

pub returns : goal.returns
returns c =
    reported_by_entries c.an_event_goes_one_of_four_ways.ensures c.a_number_is_read_from_its_text.ensures
    c.an_event_is_read_from_its_text.ensures c.every_legal_text_is_accepted.ensures
