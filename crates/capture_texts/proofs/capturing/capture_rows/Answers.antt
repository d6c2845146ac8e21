use Rattle.std.proofs.Common.{refl, sym, subst, ◌∙◌, List, ℕ}
use Rattle.dp_line.specs.World.{description_of}
use Rattle.explain_texts.specs.TextRows.{octets_read}
use Rattle.explain_texts.proofs.CheckedRows.{falls}
use Rattle.explain_texts.proofs.ReadRows.{accepted_is, no_header, nothing_since, part_behind, row_behind, row_since, whole_behind}
use Rattle.capture_texts.proofs.Deciding.{decided_at_end, decided_behind, decides_at_header, decides_at_wrong}
use Rattle.capture_texts.proofs.Rows.{AreCaptured, cut_is, header_captured, refused_is, row_captured, taken_is}
use Rattle.capture_texts.proofs.Texts.{counts, cut_text, ended_text, headless_text, part_text, unread_text, wrong_text, wrong_verdict}
use Rattle.capture_texts.proofs.capturing.capture_rows.Goals as goal

pub returns-then-not-is_whole-clause-captured : goal.returns-then-not-is_whole-clause-captured
returns-then-not-is_whole-clause-captured g c =
    part_text c.args.entries.now.interface (description_of c.args.line.now) c.args.rows.now.text (g.W.Write.contents c.args.writer.now) c.requires.first (sym c.is_whole.ensures.whole ∙ c.if-not-is_whole.true) c.is_whole.ensures.no_lf

pub returns-then-not-is_header_of-clause-captured : goal.returns-then-not-is_header_of-clause-captured
returns-then-not-is_header_of-clause-captured g c =
    let line = description_of c.args.line.now in
    let text = c.args.rows.now.text in
    headless_text c.args.entries.now.interface line text (g.W.Write.contents c.args.writer.now) c.requires.first (sym c.is_whole.ensures.whole ∙ c.if-not-is_whole.false) c.is_whole.ensures.no_lf
    (accepted_is line text.row c.row.result.now c.is_header_of.result _ c.row.ensures.row c.is_header_of.ensures c.if-not-is_header_of.true)

pub returns-then-not-is_header_of-clause-decided : goal.returns-then-not-is_header_of-clause-decided
returns-then-not-is_header_of-clause-decided g c = λ whole.
    let line = description_of c.args.line.now in
    let text = c.args.rows.now.text in
    let other = accepted_is line text.row c.row.result.now c.is_header_of.result _ c.row.ensures.row c.is_header_of.ensures c.if-not-is_header_of.true in
    decided_behind c.args.entries.now.interface line (g.R.Read.remaining c.args.rows.now.reader) (g.R.Read.remaining c.args.rows.now.reader) text text (nothing_since (g.R.Read.remaining c.args.rows.now.reader) text)
    (λ behind.
    decides_at_header c.args.entries.now.interface line text behind c.requires.first whole c.is_whole.ensures.no_lf other (no_header line text c.requires.first whole c.is_whole.ensures.no_lf other))

pub loop-rows-init : goal.loop-rows-init
loop-rows-init g c =
    let line = description_of c.args.line.now in
    let text = c.args.rows.now.text in
    let whole = sym c.is_whole.ensures.whole ∙ c.if-not-is_whole.false in
    record {
      right =
          header_captured c.args.entries.now.interface line text c.args.entries.now.follower (g.W.Write.contents c.args.writer.now) c.requires.first whole c.is_whole.ensures.no_lf
          (accepted_is line text.row c.row.result.now c.is_header_of.result _ c.row.ensures.row c.is_header_of.ensures c.if-not-is_header_of.false) c.requires.opened;
      same = c.requires.same;
      interface = refl;
      whole = whole;
      since = nothing_since (g.R.Read.remaining c.args.rows.now.reader) text;
    }

pub returns-in-Ok-false-clause-captured : goal.returns-in-Ok-false-clause-captured
returns-in-Ok-false-clause-captured g c =
    let l = c.loop-rows in
    let after = c.read_row.new.self.text in
    ended_text c.args.entries.now.interface (description_of c.args.line.now) (octets_read l.rows.text) after.row (octets_read after) c.row-in-Ok-false.result.now c.count-count.result c.verdict_at_end.result l.entries.follower
    (g.W.Write.contents c.args.writer.now) (g.W.Write.contents l.writer) l.invariant.right c.read_row.ensures.reads.no_lf c.count-count.ensures c.row-in-Ok-false.ensures.row c.verdict_at_end.ensures
    (part_behind l.rows.text after _ _ l.invariant.whole c.read_row.ensures.reads (sym c.in-Ok-false.ensures.whole ∙ c.in-Ok-false.field-0-test))

pub returns-in-Ok-false-clause-decided : goal.returns-in-Ok-false-clause-decided
returns-in-Ok-false-clause-decided g c = λ begun.
    let l = c.loop-rows in
    let after = c.read_row.new.self.text in
    decided_at_end c.args.entries.now.interface (description_of c.args.line.now) _ _ _ c.args.rows.now.text l.rows.text after l.invariant.since
    (row_since _ c.args.rows.now.text _ l.rows.text _ after l.invariant.since c.read_row.ensures.reads) (c.in-Ok-false.ensures.end (sym c.in-Ok-false.ensures.whole ∙ c.in-Ok-false.field-0-test))

pub returns-in-Err-clause-captured : goal.returns-in-Err-clause-captured
returns-in-Err-clause-captured g c =
    let l = c.loop-rows in
    let after = c.read_row.new.self.text in
    unread_text c.args.entries.now.interface (description_of c.args.line.now) (octets_read l.rows.text) after.row (octets_read after) after.whole l.entries.follower (g.W.Write.contents c.args.writer.now) (g.W.Write.contents l.writer)
    c.in-Err.fault c.of_read.result c.of_read.ensures l.invariant.right c.read_row.ensures.reads.no_lf (row_behind l.rows.text after _ _ l.invariant.whole c.read_row.ensures.reads) c.in-Err.ensures.named

pub loop-rows-smaller : goal.loop-rows-smaller
loop-rows-smaller g c =
    let l = c.loop-rows in
    let is = taken_is _ _ _ _ _ _ _ c.in-Ok.field-0 c.in-Ok.ensures.taken in
    falls c.count-count.result l.entries.follower.known.context.world.count c.take_row.new.self.follower.known.context.world.count c.count-count.ensures c.count-count.type_inv
    (counts l.entries.interface l.entries.follower c.take_row.new.self.follower c.take_row.new.self.state.world c.row-in-loop-rows.result.now _ _ is)

pub loop-rows-preserved : goal.loop-rows-preserved
loop-rows-preserved g c =
    let line = description_of c.args.line.now in
    let l = c.loop-rows in
    let after = c.read_row.new.self.text in
    let whole = sym c.in-Ok-true.ensures.whole ∙ c.in-Ok-true.field-0-test in
    let is = taken_is _ _ _ _ _ _ _ c.in-Ok.field-0 (rw (c.row-in-loop-rows.ensures.row, l.invariant.interface) at c.in-Ok.ensures.taken) in
    record {
      right =
          subst (λ (t : List ℕ). AreCaptured c.args.entries.now.interface line t c.take_row.new.self.follower (g.W.Write.contents c.args.writer.now) (g.W.Write.contents c.take_row.new.writer))
          (sym (whole_behind l.rows.text after _ _ l.invariant.whole c.read_row.ensures.reads whole))
          (row_captured c.args.entries.now.interface line (octets_read l.rows.text) after.row l.entries.follower c.take_row.new.self.follower c.take_row.new.self.state.world (g.W.Write.contents c.args.writer.now) (g.W.Write.contents l.writer)
          (g.W.Write.contents c.take_row.new.writer) l.invariant.right c.read_row.ensures.reads.no_lf is);
      same = is.same;
      interface = c.take_row.ensures.interface ∙ l.invariant.interface;
      whole = whole;
      since = row_since _ c.args.rows.now.text _ l.rows.text _ after l.invariant.since c.read_row.ensures.reads;
    }

pub returns-in-Err-Wrong-clause-captured : goal.returns-in-Err-Wrong-clause-captured
returns-in-Err-Wrong-clause-captured g c =
    let l = c.loop-rows in
    let after = c.read_row.new.self.text in
    wrong_text c.args.entries.now.interface (description_of c.args.line.now) (octets_read l.rows.text) after.row (octets_read after) l.entries.follower (g.W.Write.contents c.args.writer.now) (g.W.Write.contents l.writer)
    (g.W.Write.contents c.take_row.new.writer) c.in-Err-Wrong.fault l.invariant.right c.read_row.ensures.reads.no_lf
    (whole_behind l.rows.text after _ _ l.invariant.whole c.read_row.ensures.reads (sym c.in-Ok-true.ensures.whole ∙ c.in-Ok-true.field-0-test))
    (refused_is _ _ _ _ _ _ _ c.in-Err-Wrong.fault (rw (c.in-Err-Wrong.field-0-is, c.row-in-loop-rows.ensures.row) at c.in-Err-Wrong.ensures.taken))

pub returns-in-Err-Wrong-clause-decided : goal.returns-in-Err-Wrong-clause-decided
returns-in-Err-Wrong-clause-decided g c = λ begun.
    let line = description_of c.args.line.now in
    let l = c.loop-rows in
    let after = c.read_row.new.self.text in
    let is = refused_is _ _ _ _ _ _ _ c.in-Err-Wrong.fault (rw (c.in-Err-Wrong.field-0-is, c.row-in-loop-rows.ensures.row) at c.in-Err-Wrong.ensures.taken) in
    let read = whole_behind l.rows.text after _ _ l.invariant.whole c.read_row.ensures.reads (sym c.in-Ok-true.ensures.whole ∙ c.in-Ok-true.field-0-test) in
    decided_behind c.args.entries.now.interface line _ _ c.args.rows.now.text after (row_since _ c.args.rows.now.text _ l.rows.text _ after l.invariant.since c.read_row.ensures.reads)
    (λ behind.
    decides_at_wrong c.args.entries.now.interface line (octets_read l.rows.text) after.row (octets_read after) behind l.entries.follower (g.W.Write.contents c.args.writer.now) (g.W.Write.contents l.writer) c.in-Err-Wrong.fault l.invariant.right
    c.read_row.ensures.reads.no_lf read is.wrong
    (wrong_verdict c.args.entries.now.interface line (octets_read l.rows.text) after.row (octets_read after) l.entries.follower (g.W.Write.contents c.args.writer.now) (g.W.Write.contents l.writer) c.in-Err-Wrong.fault l.invariant.right
    c.read_row.ensures.reads.no_lf read is.fault_is))

pub returns-in-Err-Cut-clause-captured : goal.returns-in-Err-Cut-clause-captured
returns-in-Err-Cut-clause-captured g c =
    let l = c.loop-rows in
    let after = c.read_row.new.self.text in
    cut_text c.args.entries.now.interface (description_of c.args.line.now) (octets_read l.rows.text) after.row (octets_read after) l.entries.follower (g.W.Write.contents c.args.writer.now) (g.W.Write.contents l.writer)
    (g.W.Write.contents c.take_row.new.writer) c.in-Err-Cut.cut c.run_fault.result c.run_fault.ensures l.invariant.right c.read_row.ensures.reads.no_lf
    (whole_behind l.rows.text after _ _ l.invariant.whole c.read_row.ensures.reads (sym c.in-Ok-true.ensures.whole ∙ c.in-Ok-true.field-0-test))
    (cut_is _ _ _ _ _ _ c.in-Err-Cut.cut after.row (rw (c.in-Err-Cut.field-0-is, c.row-in-loop-rows.ensures.row, l.invariant.interface) at c.in-Err-Cut.ensures.taken))
