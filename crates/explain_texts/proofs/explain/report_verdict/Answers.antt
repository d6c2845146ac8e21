use Rattle.std.proofs.Common.{Err}
use Rattle.explain_texts.specs.Reported.{reports_verdict}
use Rattle.explain_texts.proofs.Reporting.{one_taken}
use Rattle.explain_texts.proofs.explain.report_verdict.Goals as goal

pub returns-in-Err : goal.returns-in-Err
returns-in-Err g c = one_taken g.T.TakesEntries.takes c.args.receiver.now c.take_verdict.new.self (reports_verdict c.args.verdict) (Err c.in-Err.fault) c.in-Err.ensures
