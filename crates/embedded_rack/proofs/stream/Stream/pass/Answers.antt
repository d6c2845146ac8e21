use Rattle.std.proofs.Common.{◌≡◌, ◌++◌, drop, ap, sym, ◌∙◌}
use Rattle.dp_telegram.specs.Stream.{cuts_of, with_cut, cut_lent}
use Rattle.embedded_rack.proofs.Writing.{on_err}
use Rattle.embedded_rack.proofs.Passing.{piece_written, piece_cut_off, all_passed}
use Rattle.embedded_rack.proofs.stream.Stream.pass.Goals as goal

pub loop-piece-preserved-in-Continue-1 : goal.loop-piece-preserved-in-Continue-1
loop-piece-preserved-in-Continue-1 g c =
    let left = c.loop-piece.left.now in
    let held = c.loop-piece.self-inside.cutter in
    let piece = cut_lent c.in-Some.piece in
    let handed : cuts_of (held ++ left) ≡ with_cut piece (cuts_of (c.pass.new.self ++ left)) =
    c.in-Some.ensures.stream left
    ∙ ap (λ behind. with_cut piece (cuts_of (behind ++ left))) (c.in-Some.ensures.left ∙ ap (λ count. drop count held) (sym c.size-count.ensures) ∙ sym c.pass.ensures.held) in record {
      answered =
          piece_written _ _ (g.W.Write.contents c.loop-piece.writer) _ c.loop-piece.book c.answer_piece.new.book c.loop-piece.self-inside.master piece c.as_bytes.result.now _ _
          c.loop-piece.invariant.answered handed (ap (λ text. record { journal = c.answer_piece.new.book; text = text }) c.as_bytes.ensures ∙ c.answer_piece.ensures) c.in_ok-write_whole.ensures.ok;
      most = c.pass.ensures.most;
    }

pub returns-in_err-write_whole-clause-err : goal.returns-in_err-write_whole-clause-err
returns-in_err-write_whole-clause-err g c =
    let left = c.loop-piece.left.now in
    let held = c.loop-piece.self-inside.cutter in
    let piece = cut_lent c.in-Some.piece in
    let handed : cuts_of (held ++ left) ≡ with_cut piece (cuts_of (c.pass.new.self ++ left)) =
    c.in-Some.ensures.stream left
    ∙ ap (λ behind. with_cut piece (cuts_of (behind ++ left))) (c.in-Some.ensures.left ∙ ap (λ count. drop count held) (sym c.size-count.ensures) ∙ sym c.pass.ensures.held) in
    on_err c.from_residual.result
    (piece_cut_off _ _ (g.W.Write.contents c.loop-piece.writer) _ c.loop-piece.book c.answer_piece.new.book c.loop-piece.self-inside.master piece c.as_bytes.result.now _ _
    c.loop-piece.invariant.answered handed (ap (λ text. record { journal = c.answer_piece.new.book; text = text }) c.as_bytes.ensures ∙ c.answer_piece.ensures) c.in_err-write_whole.ensures.err)

pub returns-then-is_empty-clause-journal : goal.returns-then-is_empty-clause-journal
returns-then-is_empty-clause-journal g c =
    (all_passed _ _ _ c.loop-piece.book c.loop-piece.self-inside.master c.loop-piece.self-inside.cutter c.loop-piece.left.now c.loop-piece.invariant.answered (sym c.if-is_empty.ensures) c.in_default.ensures.rest).journal_is

pub returns-then-is_empty-clause-stream : goal.returns-then-is_empty-clause-stream
returns-then-is_empty-clause-stream g c =
    (all_passed _ _ _ c.loop-piece.book c.loop-piece.self-inside.master c.loop-piece.self-inside.cutter c.loop-piece.left.now c.loop-piece.invariant.answered (sym c.if-is_empty.ensures) c.in_default.ensures.rest).stream_is

pub returns-then-is_empty-clause-ok : goal.returns-then-is_empty-clause-ok
returns-then-is_empty-clause-ok g c =
    (all_passed _ _ _ c.loop-piece.book c.loop-piece.self-inside.master c.loop-piece.self-inside.cutter c.loop-piece.left.now c.loop-piece.invariant.answered (sym c.if-is_empty.ensures) c.in_default.ensures.rest).written
