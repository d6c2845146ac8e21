use Rattle.std.proofs.Common.{IsUtf8, ap, subst, sym, ◌∙◌}
use Rattle.dp_line.specs.World.{description_of}
use Rattle.explain_texts.specs.Followed.{first_follower}
use Rattle.explain_texts.proofs.Ending.{explains, explains_cut}
use Rattle.explain_texts.proofs.ReadRows.{line_is}
use Rattle.explain_texts.proofs.Reporting.{none_reported}
use Rattle.explain_texts.proofs.explaining.explain_rows.Goals as goal

pub returns-in_default-clause-explained : goal.returns-in_default-clause-explained
returns-in_default-clause-explained g c =
    (none_reported g.T.TakesEntries.takes c.args.receiver.now _, λ text. c.in_default.ensures.cases.0 (subst IsUtf8 (sym c.row.ensures.row) text))

pub returns-in-Err-clause-explained : goal.returns-in-Err-clause-explained
returns-in-Err-clause-explained g c = none_reported g.T.TakesEntries.takes c.args.receiver.now _

pub follow_text-requires-clause-opened : goal.follow_text-requires-clause-opened
follow_text-requires-clause-opened g c =
    c.in-Ok-open.ensures ∙ ap (first_follower (description_of c.args.line.now)) (line_is c.in-Ok.header.now c.row.result.now c.args.rows.now.text.row c.in-Ok.ensures.cases.0 c.row.ensures.row c.row.ensures.no_lf)

pub returns-in-Ok-follow_text-clause-explained : goal.returns-in-Ok-follow_text-clause-explained
returns-in-Ok-follow_text-clause-explained g c =
    let text = c.follow_text.new.rows.text in
    explains g.T.TakesEntries.takes c.args.choice.now (description_of c.args.line.now) _ text.row c.in-Ok-follow_text.verdict c.follow_text.new.follower c.stored-ended.result c.follow_text.new.ended
    c.args.receiver.now c.follow_text.new.receiver c.end_rows.new.receiver c.end_rows.result
    c.in-Ok-follow_text.ensures.followed c.stored-ended.ensures (rw c.row-in-Ok-follow_text.ensures.row at c.end_rows.ensures)

pub returns-clause-explained : goal.returns-clause-explained
returns-clause-explained g c =
    explains_cut g.T.TakesEntries.takes c.args.choice.now (description_of c.args.line.now) _ c.follow_text.new.rows.text.row c.follow_text.new.follower c.stored-ended.result c.follow_text.new.ended
    c.args.receiver.now c.follow_text.new.receiver c.in-Err-follow_text.fault c.in-Err-follow_text.ensures.followed
