use Rattle.std.proofs.Common.{Err, subst, sym}
use Rattle.rack_script.specs.declared.run_fault.RunFault.{RunFault}
use Rattle.rack_script.specs.Explanations.{ReportsVerdict}
use Rattle.explain_texts.proofs.Reporting.{none_reported}
use Rattle.rack_script.proofs.Reportings.{verdict_failed}
use Rattle.rack_script.proofs.explain.report_verdict_to.Goals as goal

pub returns-in-Err-clause-reported : goal.returns-in-Err-clause-reported
returns-in-Err-clause-reported g c =
    subst (λ (fault : RunFault). ReportsVerdict g.T.TakesEntries.takes c.args.verdict c.args.receiver.now c.args.receiver.now (Err fault)) (sym c.in-Err.ensures.err) (none_reported g.T.TakesEntries.takes c.args.receiver.now _)

pub returns-in-Err-take_verdict-clause-reported : goal.returns-in-Err-take_verdict-clause-reported
returns-in-Err-take_verdict-clause-reported g c =
    subst (λ (fault : RunFault). ReportsVerdict g.T.TakesEntries.takes c.args.verdict c.args.receiver.now c.take_verdict.new.self (Err fault)) (sym c.of_rows.ensures)
    (verdict_failed g.T.TakesEntries.takes c.args.verdict c.args.receiver.now c.take_verdict.new.self c.in-Err-take_verdict.fault c.in-Err-take_verdict.ensures)
