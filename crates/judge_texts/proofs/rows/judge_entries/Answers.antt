use Rattle.std.proofs.Common.{◌≡◌, List, ℕ, ◌+◌, arith, refl, sym, ap, subst, ◌∙◌}
use Rattle.dp_line.specs.World.{description_of}
use Rattle.dp_audit.specs.Check.{checked}
use Rattle.explain_texts.specs.TextRows.{octets_read}
use Rattle.explain_texts.proofs.CheckedRows.{IsLineAfter, at_header, counts, end_is, falls, with_event, wrong_is}
use Rattle.explain_texts.proofs.ReadRows.{accepted_is, no_header, not_whole, nothing_since, part_behind, row_behind, row_since, whole_behind}
use Rattle.judge_texts.proofs.JudgedLines.{SoFar, header_judged, none_judged, other_has_none, part_has_none, read_ended, row_judged, text_cut, text_ended, text_unread, text_wrong}
use Rattle.judge_texts.proofs.ReadRows.{decides_at_end, decides_at_header, decides_at_wrong_row}
use Rattle.judge_texts.proofs.rows.judge_entries.Goals as goal

pub returns-then-not-is_whole-clause-judged : goal.returns-then-not-is_whole-clause-judged
returns-then-not-is_whole-clause-judged g c =
    let line = description_of c.args.line.now in
    let text = c.args.rows.now.text in
    let begun = sym c.is_whole.ensures.whole ∙ c.if-not-is_whole.true in
    none_judged c.args.choice.now line text _ c.args.judge.now (g.W.Write.contents c.args.writer.now) (sym (not_whole line text c.requires.first begun c.is_whole.ensures.no_lf).judged)
    (part_has_none c.args.choice.now line text c.requires.first begun c.is_whole.ensures.no_lf) c.requires.unused

pub returns-then-not-is_header_of-clause-judged : goal.returns-then-not-is_header_of-clause-judged
returns-then-not-is_header_of-clause-judged g c =
    let line = description_of c.args.line.now in
    let text = c.args.rows.now.text in
    let whole = sym c.is_whole.ensures.whole ∙ c.if-not-is_whole.false in
    let other = accepted_is line text.row c.row.result.now c.is_header_of.result _ c.row.ensures.row c.is_header_of.ensures c.if-not-is_header_of.true in
    none_judged c.args.choice.now line text _ c.args.judge.now (g.W.Write.contents c.args.writer.now) (sym (no_header line text c.requires.first whole c.is_whole.ensures.no_lf other).judged)
    (other_has_none c.args.choice.now line text c.requires.first whole c.is_whole.ensures.no_lf other) c.requires.unused

pub returns-then-not-is_header_of-clause-decided : goal.returns-then-not-is_header_of-clause-decided
returns-then-not-is_header_of-clause-decided g c = λ whole.
    let line = description_of c.args.line.now in
    let text = c.args.rows.now.text in
    decides_at_header c.args.choice.now line (g.R.Read.remaining c.args.rows.now.reader) text c.requires.first whole
    (no_header line text c.requires.first whole c.is_whole.ensures.no_lf
    (accepted_is line text.row c.row.result.now c.is_header_of.result _ c.row.ensures.row c.is_header_of.ensures c.if-not-is_header_of.true))

pub loop-rows-init : goal.loop-rows-init
loop-rows-init g c =
    let line = description_of c.args.line.now in
    let text = c.args.rows.now.text in
    let whole = sym c.is_whole.ensures.whole ∙ c.if-not-is_whole.false in
    let accepted = accepted_is line text.row c.row.result.now c.is_header_of.result _ c.row.ensures.row c.is_header_of.ensures c.if-not-is_header_of.false in
    record {
      right = at_header line text c.args.state.now.world c.requires.first whole c.is_whole.ensures.no_lf accepted c.requires.opened;
      judged =
          header_judged c.args.choice.now line text c.args.state.now.world c.args.judge.now (g.W.Write.contents c.args.writer.now) c.requires.first whole c.is_whole.ensures.no_lf accepted c.requires.opened c.requires.unused;
      whole = whole;
      since = nothing_since (g.R.Read.remaining c.args.rows.now.reader) text;
    }

pub returns-in-Ok-false-clause-judged : goal.returns-in-Ok-false-clause-judged
returns-in-Ok-false-clause-judged g c =
    let line = description_of c.args.line.now in
    let l = c.loop-rows in
    let after = c.read_row.new.self.text in
    let all = part_behind l.rows.text after _ _ l.invariant.whole c.read_row.ensures.reads (sym c.in-Ok-false.ensures.whole ∙ c.in-Ok-false.field-0-test) in
    text_ended c.args.choice.now line (octets_read l.rows.text) after.row (octets_read after) l.state.world l.judge c.verdict_at_end.result (g.W.Write.contents c.args.writer.now) (g.W.Write.contents l.writer)
    l.invariant.judged c.read_row.ensures.reads.no_lf
    (end_is line (octets_read l.rows.text) after.row (octets_read after) c.row-in-Ok-false.result.now c.count-count.result l.state.world c.verdict_at_end.result l.invariant.right c.read_row.ensures.reads.no_lf
    c.count-count.ensures c.row-in-Ok-false.ensures.row c.verdict_at_end.ensures all)
    all

pub returns-in-Ok-false-clause-decided : goal.returns-in-Ok-false-clause-decided
returns-in-Ok-false-clause-decided g c = λ begun.
    decides_at_end c.args.choice.now (description_of c.args.line.now) _ _ _ c.args.rows.now.text c.loop-rows.rows.text c.read_row.new.self.text c.loop-rows.invariant.since c.read_row.ensures.reads
    (c.in-Ok-false.ensures.end (sym c.in-Ok-false.ensures.whole ∙ c.in-Ok-false.field-0-test))

pub returns-in-Err-clause-judged : goal.returns-in-Err-clause-judged
returns-in-Err-clause-judged g c =
    let line = description_of c.args.line.now in
    let l = c.loop-rows in
    let after = c.read_row.new.self.text in
    read_ended c.args.choice.now line (octets_read after) l.judge (g.W.Write.contents c.args.writer.now) (g.W.Write.contents l.writer) c.in-Err.fault c.in-Err.ensures.named
    (text_unread c.args.choice.now line (octets_read l.rows.text) after.row (octets_read after) after.whole l.state.world l.judge (g.W.Write.contents c.args.writer.now) (g.W.Write.contents l.writer)
    l.invariant.judged c.read_row.ensures.reads.no_lf (row_behind l.rows.text after _ _ l.invariant.whole c.read_row.ensures.reads))

pub loop-rows-smaller : goal.loop-rows-smaller
loop-rows-smaller g c =
    falls c.count-count.result c.loop-rows.state.world.count c.take_row.new.state.world.count c.count-count.ensures c.count-count.type_inv
    (counts c.loop-rows.state.world c.take_row.new.state.world c.row-in-loop-rows.result.now c.take_row.new.answer c.in-Ok.event _ refl c.in-Ok.ensures)

pub loop-rows-preserved : goal.loop-rows-preserved
loop-rows-preserved g c =
    let line = description_of c.args.line.now in
    let l = c.loop-rows in
    let after = c.read_row.new.self.text in
    let whole = sym c.in-Ok-true.ensures.whole ∙ c.in-Ok-true.field-0-test in
    let all = whole_behind l.rows.text after _ _ l.invariant.whole c.read_row.ensures.reads whole in
    let takes = rw c.row-in-loop-rows.ensures.row at c.in-Ok.ensures in
    let at : c.from-place.result + 1 ≡ c.loop-rows.state.world.count + 1 = omega (arith, c.from-place.ensures, c.count-count.ensures) in
    record {
      right = subst (λ (t : List ℕ). IsLineAfter line t c.take_row.new.state.world) (sym all)
          (with_event line (octets_read l.rows.text) after.row l.state.world c.take_row.new.state.world c.take_row.new.answer c.in-Ok.event l.invariant.right c.read_row.ensures.reads.no_lf takes);
      judged = subst (λ (t : List ℕ). SoFar c.args.choice.now line t c.take_row.new.state.world c.judge_event.new.judge (g.W.Write.contents c.args.writer.now) (g.W.Write.contents c.judge_event.new.writer)) (sym all)
          (row_judged c.args.choice.now line (octets_read l.rows.text) after.row l.state.world c.take_row.new.state.world l.judge c.judge_event.new.judge c.take_row.new.answer c.in-Ok.event (c.from-place.result + 1)
          (g.W.Write.contents c.args.writer.now) (g.W.Write.contents l.writer) (g.W.Write.contents c.judge_event.new.writer) l.invariant.judged c.read_row.ensures.reads.no_lf takes at
          c.in-Ok-judge_event.ensures.judges c.in-Ok-judge_event.ensures.findings);
      whole = whole;
      since = row_since _ c.args.rows.now.text _ l.rows.text _ after l.invariant.since c.read_row.ensures.reads;
    }

pub returns-in-Err-judge_event-clause-judged : goal.returns-in-Err-judge_event-clause-judged
returns-in-Err-judge_event-clause-judged g c =
    let line = description_of c.args.line.now in
    let l = c.loop-rows in
    let after = c.read_row.new.self.text in
    let all = whole_behind l.rows.text after _ _ l.invariant.whole c.read_row.ensures.reads (sym c.in-Ok-true.ensures.whole ∙ c.in-Ok-true.field-0-test) in
    let at : c.from-place.result + 1 ≡ c.loop-rows.state.world.count + 1 = omega (arith, c.from-place.ensures, c.count-count.ensures) in
    text_cut c.args.choice.now line (octets_read l.rows.text) after.row (octets_read after) l.state.world c.take_row.new.state.world l.judge c.take_row.new.answer c.in-Ok.event (c.from-place.result + 1)
    (g.W.Write.contents c.args.writer.now) (g.W.Write.contents l.writer) (g.W.Write.contents c.judge_event.new.writer) l.invariant.judged c.read_row.ensures.reads.no_lf
    (rw c.row-in-loop-rows.ensures.row at c.in-Ok.ensures) at c.in-Err-judge_event.ensures.findings all

pub returns-in-Err-take_row-clause-judged : goal.returns-in-Err-take_row-clause-judged
returns-in-Err-take_row-clause-judged g c =
    let line = description_of c.args.line.now in
    let l = c.loop-rows in
    let after = c.read_row.new.self.text in
    let all = whole_behind l.rows.text after _ _ l.invariant.whole c.read_row.ensures.reads (sym c.in-Ok-true.ensures.whole ∙ c.in-Ok-true.field-0-test) in
    let takes = rw c.row-in-loop-rows.ensures.row at c.in-Err-take_row.ensures in
    text_wrong c.args.choice.now line (octets_read l.rows.text) after.row (octets_read after) l.state.world c.take_row.new.state.world l.judge c.take_row.new.answer c.in-Err-take_row.fault _
    (g.W.Write.contents c.args.writer.now) (g.W.Write.contents l.writer) l.invariant.judged c.read_row.ensures.reads.no_lf takes
    (sym (ap (checked line) all
    ∙ wrong_is line (octets_read l.rows.text) after.row l.state.world c.take_row.new.state.world c.take_row.new.answer c.in-Err-take_row.fault l.invariant.right c.read_row.ensures.reads.no_lf takes))
    all

pub returns-in-Err-take_row-clause-decided : goal.returns-in-Err-take_row-clause-decided
returns-in-Err-take_row-clause-decided g c = λ begun.
    let line = description_of c.args.line.now in
    let before = c.loop-rows.rows.text in
    let after = c.read_row.new.self.text in
    decides_at_wrong_row c.args.choice.now line _ _ _ c.args.rows.now.text before after c.in-Err-take_row.fault c.loop-rows.invariant.since c.loop-rows.invariant.whole c.read_row.ensures.reads
    (sym c.in-Ok-true.ensures.whole ∙ c.in-Ok-true.field-0-test)
    (wrong_is line (octets_read before) after.row c.loop-rows.state.world c.take_row.new.state.world c.take_row.new.answer c.in-Err-take_row.fault c.loop-rows.invariant.right c.read_row.ensures.reads.no_lf
    (rw c.row-in-loop-rows.ensures.row at c.in-Err-take_row.ensures))
