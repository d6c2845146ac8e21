use Rattle.std.proofs.Common.{[]}
use Rattle.judge_texts.specs.Judging.{exit_status, fails, judged_by}
use Rattle.judge_texts.proofs.EndedText.{cut_ended, ended_judged, not_readable}
use Rattle.judge_texts.proofs.rows.end_rows.Goals as goal

pub returns-in-Err : goal.returns-in-Err
returns-in-Err g c =
    not_readable (judged_by c.args.choice.now [] c.args.judge.now.seats c.args.verdict) c.args.verdict c.args.row.now (g.W.Write.contents c.args.writer.now) c.in-Err.fault c.in-Err.ensures.verdict

pub returns-in-Ok-write_end : goal.returns-in-Ok-write_end
returns-in-Ok-write_end g c =
    ended_judged c.args.choice.now c.args.judge.now.seats c.args.verdict c.args.row.now (g.W.Write.contents c.args.writer.now) (g.W.Write.contents c.write_end.new.writer) c.in-Ok-write_end.status
    c.in-Ok.ensures.verdict.1 c.in-Ok-write_end.ensures

pub returns-in-Err-write_end : goal.returns-in-Err-write_end
returns-in-Err-write_end g c =
    cut_ended c.args.choice.now c.args.judge.now.seats c.args.verdict c.args.row.now (g.W.Write.contents c.args.writer.now) (g.W.Write.contents c.write_end.new.writer) (exit_status (fails c.args.choice.now c.args.judge.now.seats) c.args.verdict) c.in-Err-write_end.fault
    c.in-Err-write_end.ensures
