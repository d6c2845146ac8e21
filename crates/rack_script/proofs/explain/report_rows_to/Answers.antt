use Rattle.std.proofs.Common.{ℕ, [], ◌∷◌, Result, subst}
use Rattle.dp_audit.specs.declared.fault.AuditFault.{AuditFault}
use Rattle.explain_texts.specs.declared.read_fault.ReadFault.{ReadFault}
use Rattle.explain_texts.specs.ExplainedRows.{Reads}
use Rattle.explain_texts.specs.Reported.{reports_verdict}
use Rattle.rack_script.proofs.Reportings.{unread_explained, verdict_explained}
use Rattle.rack_script.proofs.explain.report_rows_to.Goals as goal

pub returns-in-Ok-clause-reported : goal.returns-in-Ok-clause-reported
returns-in-Ok-clause-reported g c = λ known row reads.
    let read = subst (λ (v : Result (Result ℕ AuditFault) ReadFault). Reads known row v) c.in-Ok.is reads in
    verdict_explained g.T.TakesEntries.takes c.in-Ok.verdict known row c.args.receiver.now c.report_verdict_to.new.receiver c.report_verdict_to.result read.0 read.1 c.report_verdict_to.ensures.reported

pub returns-in-Err-clause-reported : goal.returns-in-Err-clause-reported
returns-in-Err-clause-reported g c = λ known row unread.
    unread_explained g.T.TakesEntries.takes known row (reports_verdict known ∷ []) c.args.receiver.now c.args.verdict c.in-Err.fault c.of_read.result c.in-Err.is c.of_read.ensures unread
