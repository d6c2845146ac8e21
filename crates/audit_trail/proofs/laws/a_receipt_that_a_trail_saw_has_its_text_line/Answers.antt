use Rattle.audit_trail.proofs.TextLines.{line_of_receipt, line_of_receipt_now}
use Rattle.audit_trail.proofs.laws.a_receipt_that_a_trail_saw_has_its_text_line.Goals as goal

pub returns-clause-always : goal.returns-clause-always
returns-clause-always c = line_of_receipt_now

pub returns-clause-closed : goal.returns-clause-closed
returns-clause-closed c = line_of_receipt
