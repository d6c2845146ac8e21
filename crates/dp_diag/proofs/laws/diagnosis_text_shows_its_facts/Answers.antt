use Rattle.dp_diag.proofs.ReadBack.{diagnosis_text_reported}
use Rattle.dp_diag.proofs.laws.diagnosis_text_shows_its_facts.Goals as goal

pub returns : goal.returns
returns c = diagnosis_text_reported
