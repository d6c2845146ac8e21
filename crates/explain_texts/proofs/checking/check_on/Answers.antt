use Rattle.std.proofs.Common.{List, ℕ, refl, sym, ap, subst, ◌∙◌}
use Rattle.dp_line.specs.World.{description_of}
use Rattle.dp_audit.specs.Check.{checked}
use Rattle.explain_texts.specs.TextRows.{octets_read}
use Rattle.explain_texts.proofs.CheckedRows.{IsLineAfter, at_header, counts, end_is, falls, with_event, wrong_is}
use Rattle.explain_texts.proofs.ReadRows.{accepted_is, decides_at_end, decides_at_header, decides_at_wrong_row_read, no_header, not_whole, nothing_since, part_behind, row_since, whole_behind}
use Rattle.explain_texts.proofs.checking.check_on.Goals as goal

pub returns-then-not-is_whole-clause-verdict : goal.returns-then-not-is_whole-clause-verdict
returns-then-not-is_whole-clause-verdict g c =
    sym (not_whole (description_of c.args.line.now) c.args.rows.now.text c.requires.first (sym c.is_whole.ensures.whole ∙ c.if-not-is_whole.true) c.is_whole.ensures.no_lf).judged

pub returns-then-not-is_header_of-clause-verdict : goal.returns-then-not-is_header_of-clause-verdict
returns-then-not-is_header_of-clause-verdict g c =
    let line = description_of c.args.line.now in
    sym (no_header line c.args.rows.now.text c.requires.first (sym c.is_whole.ensures.whole ∙ c.if-not-is_whole.false) c.is_whole.ensures.no_lf
    (accepted_is line c.args.rows.now.text.row c.row.result.now c.is_header_of.result _ c.row.ensures.row c.is_header_of.ensures c.if-not-is_header_of.true)).judged

pub returns-then-not-is_header_of-clause-decided : goal.returns-then-not-is_header_of-clause-decided
returns-then-not-is_header_of-clause-decided g c = λ whole.
    let line = description_of c.args.line.now in
    decides_at_header line (g.R.Read.remaining c.args.rows.now.reader) c.args.rows.now.text c.requires.first whole
    (no_header line c.args.rows.now.text c.requires.first whole c.is_whole.ensures.no_lf
    (accepted_is line c.args.rows.now.text.row c.row.result.now c.is_header_of.result _ c.row.ensures.row c.is_header_of.ensures c.if-not-is_header_of.true))

pub loop-rows-init : goal.loop-rows-init
loop-rows-init g c =
    let line = description_of c.args.line.now in
    record {
      right =
          at_header line c.args.rows.now.text c.args.state.now.world c.requires.first (sym c.is_whole.ensures.whole ∙ c.if-not-is_whole.false) c.is_whole.ensures.no_lf
          (accepted_is line c.args.rows.now.text.row c.row.result.now c.is_header_of.result _ c.row.ensures.row c.is_header_of.ensures c.if-not-is_header_of.false) c.requires.opened;
      whole = sym c.is_whole.ensures.whole ∙ c.if-not-is_whole.false;
      since = nothing_since (g.R.Read.remaining c.args.rows.now.reader) c.args.rows.now.text;
    }

pub returns-in-Ok-false-clause-verdict : goal.returns-in-Ok-false-clause-verdict
returns-in-Ok-false-clause-verdict g c =
    let line = description_of c.args.line.now in
    let before = c.loop-rows.rows.text in
    let after = c.read_row.new.self.text in
    end_is line (octets_read before) after.row (octets_read after) c.row-in-Ok-false.result.now c.count-count.result c.loop-rows.state.world c.verdict_at_end.result c.loop-rows.invariant.right c.read_row.ensures.reads.no_lf
    c.count-count.ensures c.row-in-Ok-false.ensures.row c.verdict_at_end.ensures
    (part_behind before after _ _ c.loop-rows.invariant.whole c.read_row.ensures.reads (sym c.in-Ok-false.ensures.whole ∙ c.in-Ok-false.field-0-test))

pub returns-in-Ok-false-clause-decided : goal.returns-in-Ok-false-clause-decided
returns-in-Ok-false-clause-decided g c = λ begun.
    decides_at_end (description_of c.args.line.now) _ _ _ c.args.rows.now.text c.loop-rows.rows.text c.read_row.new.self.text c.loop-rows.invariant.since c.read_row.ensures.reads
    (c.in-Ok-false.ensures.end (sym c.in-Ok-false.ensures.whole ∙ c.in-Ok-false.field-0-test))

pub loop-rows-smaller : goal.loop-rows-smaller
loop-rows-smaller g c =
    falls c.count-count.result c.loop-rows.state.world.count c.take_row.new.state.world.count c.count-count.ensures c.count-count.type_inv
    (counts c.loop-rows.state.world c.take_row.new.state.world c.row-in-loop-rows.result.now c.take_row.new.answer c.in-Ok.field-0 _ refl c.in-Ok.ensures)

pub loop-rows-preserved : goal.loop-rows-preserved
loop-rows-preserved g c =
    let line = description_of c.args.line.now in
    let before = c.loop-rows.rows.text in
    let after = c.read_row.new.self.text in
    let whole = sym c.in-Ok-true.ensures.whole ∙ c.in-Ok-true.field-0-test in
    record {
      right = subst (λ (t : List ℕ). IsLineAfter line t c.take_row.new.state.world) (sym (whole_behind before after _ _ c.loop-rows.invariant.whole c.read_row.ensures.reads whole))
          (with_event line (octets_read before) after.row c.loop-rows.state.world c.take_row.new.state.world c.take_row.new.answer c.in-Ok.field-0 c.loop-rows.invariant.right c.read_row.ensures.reads.no_lf
          (rw c.row-in-loop-rows.ensures.row at c.in-Ok.ensures));
      whole = whole;
      since = row_since _ c.args.rows.now.text _ before _ after c.loop-rows.invariant.since c.read_row.ensures.reads;
    }

pub returns-in-Err-take_row-clause-verdict : goal.returns-in-Err-take_row-clause-verdict
returns-in-Err-take_row-clause-verdict g c =
    let line = description_of c.args.line.now in
    let before = c.loop-rows.rows.text in
    let after = c.read_row.new.self.text in
    sym (ap (checked line) (whole_behind before after _ _ c.loop-rows.invariant.whole c.read_row.ensures.reads (sym c.in-Ok-true.ensures.whole ∙ c.in-Ok-true.field-0-test))
    ∙ wrong_is line (octets_read before) after.row c.loop-rows.state.world c.take_row.new.state.world c.take_row.new.answer c.in-Err-take_row.fault c.loop-rows.invariant.right c.read_row.ensures.reads.no_lf
    (rw c.row-in-loop-rows.ensures.row at c.in-Err-take_row.ensures))

pub returns-in-Err-take_row-clause-decided : goal.returns-in-Err-take_row-clause-decided
returns-in-Err-take_row-clause-decided g c = λ begun.
    let line = description_of c.args.line.now in
    let before = c.loop-rows.rows.text in
    let after = c.read_row.new.self.text in
    decides_at_wrong_row_read line _ _ _ c.args.rows.now.text before after c.in-Err-take_row.fault c.loop-rows.invariant.since c.loop-rows.invariant.whole c.read_row.ensures.reads
    (sym c.in-Ok-true.ensures.whole ∙ c.in-Ok-true.field-0-test)
    (wrong_is line (octets_read before) after.row c.loop-rows.state.world c.take_row.new.state.world c.take_row.new.answer c.in-Err-take_row.fault c.loop-rows.invariant.right c.read_row.ensures.reads.no_lf
    (rw c.row-in-loop-rows.ensures.row at c.in-Err-take_row.ensures))
