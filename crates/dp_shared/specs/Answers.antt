-- helper
-- The receipt of a borrowed event and its answer. No public clause cites this module.
use Rattle.dp_audit.specs.declared.entry.Receipt.{Receipt}
use Rattle.dp_audit.specs.Journal.{receipt_of}
use Rattle.dp_audit.specs.Lent.{event_lent}
use Rattle.dp_shared.specs.declared.line.Answered.{Answered}

abbrev pub receipt_answered : Answered → Receipt
receipt_answered answered = receipt_of (event_lent answered.event) answered.answer.now
