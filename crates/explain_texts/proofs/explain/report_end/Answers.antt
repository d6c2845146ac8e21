use Rattle.std.proofs.Common.{[], ◌∷◌, unwrap_or}
use Rattle.dp_line.specs.World.{description_of}
use Rattle.explain_texts.specs.Followed.{followed_summary}
use Rattle.explain_texts.specs.Reported.{reports_verdict}
use Rattle.explain_texts.proofs.Ending.{then_verdict}
use Rattle.explain_texts.proofs.Reporting.{first_cut}
use Rattle.explain_texts.proofs.explain.report_end.Goals as goal

pub returns-in-Ok : goal.returns-in-Ok
returns-in-Ok g c =
    then_verdict g.T.TakesEntries.takes c.args.verdict c.args.receiver.now c.report_summary.new.receiver c.report_verdict.new.receiver
    (followed_summary (description_of c.args.line.now) (unwrap_or c.args.ended.now []) c.args.follower.now.known) (reports_verdict c.args.verdict ∷ []) c.report_verdict.result c.in-Ok.ensures c.report_verdict.ensures

pub returns-in-Err : goal.returns-in-Err
returns-in-Err g c =
    first_cut g.T.TakesEntries.takes c.args.receiver.now c.report_summary.new.receiver
    (followed_summary (description_of c.args.line.now) (unwrap_or c.args.ended.now []) c.args.follower.now.known ∷ []) (reports_verdict c.args.verdict ∷ []) c.in-Err.ensures
