use Rattle.rack_file.proofs.Rows.{text_stays}
use Rattle.rack_file.proofs.laws.shown_texts_stay_in_their_row.Goals as goal

pub returns : goal.returns
returns c = text_stays
