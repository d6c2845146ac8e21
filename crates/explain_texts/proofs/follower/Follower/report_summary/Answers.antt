use Rattle.std.proofs.Common.{[], ap, rules, unwrap_or}
use Rattle.dp_line.specs.World.{description_of}
use Rattle.explain_texts.specs.Followed.{FollowerView}
use Rattle.explain_texts.specs.Following.{known_at}
use Rattle.explain_texts.proofs.Ending.{summary_taken}
use Rattle.explain_texts.proofs.Reporting.{none_reported}
use Rattle.explain_texts.proofs.follower.Follower.report_summary.Goals as goal

pub returns : goal.returns
returns g c =
    let s = c.self.inside in
    summary_taken g.T.TakesEntries.takes (description_of c.args.line.now) c.args.receiver.now c.report_summary.new.receiver (unwrap_or c.args.ended.now []) c.holds.result.now c.as_slice.result.now
    (known_at s.history s.before.world) c.args.self.now.known c.report_summary.result c.report_summary.ensures (search rules) (search rules) (ap (λ (v : FollowerView). v.known) c.self.view_is)

pub returns-in-Err : goal.returns-in-Err
returns-in-Err g c = none_reported g.T.TakesEntries.takes c.args.receiver.now _
