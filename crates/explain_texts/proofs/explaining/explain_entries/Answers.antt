use Rattle.dp_line.specs.World.{description_of}
use Rattle.explain_texts.proofs.Ending.{entries_cut, explains_entries}
use Rattle.explain_texts.proofs.explaining.explain_entries.Goals as goal

pub returns-in-Ok : goal.returns-in-Ok
returns-in-Ok g c =
    let text = c.follow_entries.new.rows.text in
    explains_entries g.T.TakesEntries.takes c.args.choice.now (description_of c.args.line.now) c.args.follower.now c.args.rows.now.text text c.in-Ok.verdict c.follow_entries.new.follower c.stored_holds-ended.result c.follow_entries.new.ended
    c.args.receiver.now c.follow_entries.new.receiver c.end_rows.new.receiver c.end_rows.result
    c.in-Ok.ensures.followed c.stored_holds-ended.ensures (rw c.row.ensures.row at c.end_rows.ensures)

pub returns : goal.returns
returns g c =
    entries_cut g.T.TakesEntries.takes c.args.choice.now (description_of c.args.line.now) c.args.follower.now c.args.rows.now.text c.follow_entries.new.rows.text c.follow_entries.new.follower c.stored_holds-ended.result c.follow_entries.new.ended
    c.args.receiver.now c.follow_entries.new.receiver c.in-Err.fault c.in-Err.ensures.followed
