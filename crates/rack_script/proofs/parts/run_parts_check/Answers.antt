use Rattle.rack_script.proofs.parts.run_parts_check.Goals as goal

pub returns-clause-reported : goal.returns-clause-reported
returns-clause-reported g c = c.report_rows.ensures.reported _ _ c.verdict_on_parts.ensures.verdict
