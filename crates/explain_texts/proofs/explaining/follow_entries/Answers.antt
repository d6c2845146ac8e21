use Rattle.std.proofs.Common.{List, ℕ, sym, subst, ◌∙◌}
use Rattle.explain_texts.specs.Followed.{facts_of_row}
use Rattle.explain_texts.specs.TextRows.{octets_read}
use Rattle.explain_texts.proofs.CheckedRows.{falls}
use Rattle.explain_texts.proofs.FollowedRows.{AreFollowed, counts, entries_cut, entries_ended, entries_unread, entries_wrong, none_followed, row_followed}
use Rattle.explain_texts.proofs.ReadEntries.{between_rows, next_row, part_next, text_at_end, whole_next}
use Rattle.explain_texts.proofs.ReadRows.{nothing_since, row_since}
use Rattle.explain_texts.proofs.explaining.follow_entries.Goals as goal

pub loop-rows-init : goal.loop-rows-init
loop-rows-init g c =
    let text = c.args.rows.now.text in
    record {
      right = none_followed g.T.TakesEntries.takes c.args.choice.now c.args.follower.now (octets_read text) c.args.ended.now c.args.receiver.now c.requires.right;
      between = c.requires.between;
      since = nothing_since (g.R.Read.remaining c.args.rows.now.reader) text;
    }

pub returns-in-Ok-false-clause-followed : goal.returns-in-Ok-false-clause-followed
returns-in-Ok-false-clause-followed g c =
    let l = c.loop-rows in
    let after = c.read_row.new.self.text in
    entries_ended g.T.TakesEntries.takes c.args.choice.now c.args.follower.now c.args.rows.now.text after (octets_read l.rows.text) after.row c.row.result.now c.count-count.result c.verdict_at_end.result l.follower
    c.args.ended.now l.ended c.args.receiver.now l.receiver l.invariant.right c.read_row.ensures.reads.no_lf
    c.count-count.ensures c.row.ensures.row c.verdict_at_end.ensures
    (part_next l.rows.text after _ _ l.invariant.between c.read_row.ensures.reads (sym c.in-Ok-false.ensures.whole ∙ c.in-Ok-false.field-0-test))

pub returns-in-Ok-false-clause-kept : goal.returns-in-Ok-false-clause-kept
returns-in-Ok-false-clause-kept g c = (row_since _ c.args.rows.now.text _ c.loop-rows.rows.text _ c.read_row.new.self.text c.loop-rows.invariant.since c.read_row.ensures.reads).kept

pub returns-in-Ok-false-clause-end : goal.returns-in-Ok-false-clause-end
returns-in-Ok-false-clause-end g c = λ part.
    let l = c.loop-rows in
    let after = c.read_row.new.self.text in
    text_at_end _ _ _ c.args.rows.now.text l.rows.text after l.invariant.since (row_since _ c.args.rows.now.text _ l.rows.text _ after l.invariant.since c.read_row.ensures.reads) (c.in-Ok-false.ensures.end part)

pub returns-in-Err-clause-followed : goal.returns-in-Err-clause-followed
returns-in-Err-clause-followed g c =
    let l = c.loop-rows in
    let after = c.read_row.new.self.text in
    entries_unread g.T.TakesEntries.takes c.args.choice.now c.args.follower.now c.args.rows.now.text after (octets_read l.rows.text) after.row after.whole l.follower
    c.args.ended.now l.ended c.args.receiver.now l.receiver c.in-Err.fault c.in-Err.ensures.named l.invariant.right c.read_row.ensures.reads.no_lf
    (next_row l.rows.text after _ _ l.invariant.between c.read_row.ensures.reads)

pub returns-in-Err-clause-kept : goal.returns-in-Err-clause-kept
returns-in-Err-clause-kept g c = (row_since _ c.args.rows.now.text _ c.loop-rows.rows.text _ c.read_row.new.self.text c.loop-rows.invariant.since c.read_row.ensures.reads).kept

pub loop-rows-smaller : goal.loop-rows-smaller
loop-rows-smaller g c =
    let l = c.loop-rows in
    falls c.count-count.result l.follower.known.context.world.count c.follow_row.new.self.known.context.world.count c.count-count.ensures c.count-count.type_inv
    (counts g.T.TakesEntries.takes (facts_of_row c.args.choice.now l.follower c.row-in-loop-rows.result.now) c.row-in-loop-rows.result.now l.follower c.follow_row.new.self l.receiver c.follow_row.new.receiver c.in-Ok.field-0
    c.follow_row.ensures.known c.in-Ok.ensures.reported)

pub loop-rows-preserved : goal.loop-rows-preserved
loop-rows-preserved g c =
    let l = c.loop-rows in
    let after = c.read_row.new.self.text in
    let whole = sym c.in-Ok-true.ensures.whole ∙ c.in-Ok-true.field-0-test in
    let new = c.follow_row.new.self in
    let newer = c.follow_row.new.receiver in
    let more = c.follow_row.new.ended in
    let first = c.args.receiver.now in
    let before = octets_read c.args.rows.now.text in
    let shown = c.row-in-loop-rows.ensures.row in
    record {
      right =
          subst (λ (t : List ℕ). AreFollowed g.T.TakesEntries.takes c.args.choice.now c.args.follower.now before t new c.args.ended.now more first newer) (sym (whole_next l.rows.text after _ _ l.invariant.between c.read_row.ensures.reads whole))
          (row_followed g.T.TakesEntries.takes c.args.choice.now c.args.follower.now before (octets_read l.rows.text) after.row l.follower new c.args.ended.now l.ended more first l.receiver newer c.in-Ok.field-0
          l.invariant.right c.read_row.ensures.reads.no_lf (rw shown at c.follow_row.ensures.known) (rw shown at c.in-Ok.ensures.reported) (rw shown at c.in-Ok.ensures.stored));
      between = between_rows after whole;
      since = row_since _ c.args.rows.now.text _ l.rows.text _ after l.invariant.since c.read_row.ensures.reads;
    }

pub returns-in-Err-Wrong-clause-followed : goal.returns-in-Err-Wrong-clause-followed
returns-in-Err-Wrong-clause-followed g c =
    let l = c.loop-rows in
    let after = c.read_row.new.self.text in
    let shown = c.row-in-loop-rows.ensures.row in
    entries_wrong g.T.TakesEntries.takes c.args.choice.now c.args.follower.now c.args.rows.now.text after (octets_read l.rows.text) after.row l.follower c.follow_row.new.self c.args.ended.now l.ended c.follow_row.new.ended
    c.args.receiver.now l.receiver c.follow_row.new.receiver c.in-Err-Wrong.fault l.invariant.right c.read_row.ensures.reads.no_lf
    (whole_next l.rows.text after _ _ l.invariant.between c.read_row.ensures.reads (sym c.in-Ok-true.ensures.whole ∙ c.in-Ok-true.field-0-test))
    (rw shown at c.follow_row.ensures.known) (rw (c.in-Err-Wrong.field-0-is, shown) at c.in-Err-Wrong.ensures.reported) (rw c.in-Err-Wrong.field-0-is at c.in-Err-Wrong.ensures.stored)

pub returns-in-Err-Wrong-clause-kept : goal.returns-in-Err-Wrong-clause-kept
returns-in-Err-Wrong-clause-kept g c = (row_since _ c.args.rows.now.text _ c.loop-rows.rows.text _ c.read_row.new.self.text c.loop-rows.invariant.since c.read_row.ensures.reads).kept

pub returns-in-Err-Explain-clause-followed : goal.returns-in-Err-Explain-clause-followed
returns-in-Err-Explain-clause-followed g c =
    let l = c.loop-rows in
    let after = c.read_row.new.self.text in
    entries_cut g.T.TakesEntries.takes c.args.choice.now c.args.follower.now c.args.rows.now.text after (octets_read l.rows.text) after.row l.follower c.follow_row.new.self c.args.ended.now l.ended c.follow_row.new.ended
    c.args.receiver.now l.receiver c.follow_row.new.receiver c.in-Err-Explain.fault l.invariant.right c.read_row.ensures.reads.no_lf
    (whole_next l.rows.text after _ _ l.invariant.between c.read_row.ensures.reads (sym c.in-Ok-true.ensures.whole ∙ c.in-Ok-true.field-0-test))
    (rw (c.in-Err-Explain.field-0-is, c.row-in-loop-rows.ensures.row) at c.in-Err-Explain.ensures.reported)

pub returns-in-Err-Explain-clause-kept : goal.returns-in-Err-Explain-clause-kept
returns-in-Err-Explain-clause-kept g c = (row_since _ c.args.rows.now.text _ c.loop-rows.rows.text _ c.read_row.new.self.text c.loop-rows.invariant.since c.read_row.ensures.reads).kept
