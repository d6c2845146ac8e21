use Rattle.dp_audit.proofs.JournalLaws.{repeated}
use Rattle.dp_audit.proofs.journal_laws.a_repeat_has_the_same_octets.Goals as goal

pub returns : goal.returns
returns c = repeated c.a_repeat_gets_the_same_octets.ensures
