use Rattle.std.proofs.Common.{ℕ, List, ◌++◌, drop, refl, sym, ap, subst, ◌∙◌}
use Rattle.dp_telegram.specs.Stream.{cut_lent, cuts_of, left_of, with_cut}
use Rattle.dp_sessions.specs.SessionProgress.{IsServedTo}
use Rattle.dp_sessions.proofs.Exchanging.{none_left, on_err, piece_broken, piece_served, served_none}
use Rattle.dp_sessions.proofs.Recording.{replies_as, replies_none, replies_then, stops_as, stops_then}
use Rattle.dp_sessions.proofs.exchange.pass_octets.Goals as goal

pub loop-piece-init : goal.loop-piece-init
loop-piece-init g c = record {
  same = record { table = refl; number = refl; address = refl };
  most = c.requires.most;
  served = served_none c.args.pass.now.view.address (c.args.cutter.now ++ c.args.octets.now) c.args.pass.now.view (g.W.Write.contents c.args.writer.now);
  replies = replies_none (g.G.Gate.recorded c.args.gate.now c.args.pass.now.line) c.args.pass.now.view.receipts (g.W.Write.contents c.args.writer.now);
}

pub loop-piece-preserved-in-Some : goal.loop-piece-preserved-in-Some
loop-piece-preserved-in-Some g c =
    let master = c.args.pass.now.view.address in
    let stream : List ℕ = c.args.cutter.now ++ c.args.octets.now in
    let old = g.W.Write.contents c.args.writer.now in
    let new = g.W.Write.contents c.answer.new.writer in record {
      same = record {
        table = c.answer.ensures.same.table ∙ c.loop-piece.invariant.same.table;
        number = c.answer.ensures.same.number ∙ c.loop-piece.invariant.same.number;
        address = c.answer.ensures.same.address ∙ c.loop-piece.invariant.same.address;
      };
      most = c.pass.ensures.most;
      served =
          piece_served master c.loop-piece.pass.view.address stream c.loop-piece.cutter c.loop-piece.left.now c.pass.new.self (cut_lent c.in-Some.piece)
          c.args.pass.now.view c.loop-piece.pass.view c.answer.new.pass.view old (g.W.Write.contents c.loop-piece.writer) new
          c.loop-piece.invariant.same.address c.loop-piece.invariant.served
          (λ more. c.in-Some.ensures.stream more ∙ ap (λ (behind : List ℕ). with_cut (cut_lent c.in-Some.piece) (cuts_of (behind ++ more)))
          (c.in-Some.ensures.left ∙ ap (λ count. drop count c.loop-piece.cutter) (sym c.size-count.ensures) ∙ sym c.pass.ensures.held))
          c.in_ok-answer.ensures.ok.written;
      replies =
          replies_then (g.G.Gate.recorded c.args.gate.now c.args.pass.now.line) c.args.pass.now.view.receipts c.loop-piece.pass.view.receipts c.answer.new.pass.view.receipts
          old (g.W.Write.contents c.loop-piece.writer) new c.loop-piece.invariant.replies
          (replies_as (g.G.Gate.recorded c.args.gate.now) c.args.pass.now.line c.loop-piece.pass.line c.loop-piece.pass.view.receipts c.answer.new.pass.view.receipts
          (g.W.Write.contents c.loop-piece.writer) new c.loop-piece.invariant.same.number c.in_ok-answer.ensures.ok.recorded);
    }

pub returns-in_err-answer-clause-err : goal.returns-in_err-answer-clause-err
returns-in_err-answer-clause-err g c =
    let old = g.W.Write.contents c.args.writer.now in
    let now = g.W.Write.contents c.loop-piece.writer in
    let new = g.W.Write.contents c.answer.new.writer in
    on_err c.from_residual.result
    (record {
      broken = piece_broken c.args.pass.now.view.address c.loop-piece.pass.view.address (c.args.cutter.now ++ c.args.octets.now) c.loop-piece.cutter c.loop-piece.left.now (left_of c.loop-piece.cutter) (cut_lent c.in-Some.piece)
          c.args.pass.now.view c.loop-piece.pass.view c.answer.new.pass.view (g.W.Write.contents c.args.writer.now) (g.W.Write.contents c.loop-piece.writer) (g.W.Write.contents c.answer.new.writer)
          c.loop-piece.invariant.same.address c.loop-piece.invariant.served c.in-Some.ensures.stream c.in_err-answer.ensures.err.written;
      recorded = stops_then (g.G.Gate.recorded c.args.gate.now c.args.pass.now.line) c.args.pass.now.view.receipts c.loop-piece.pass.view.receipts c.answer.new.pass.view.receipts
          old now new c.loop-piece.invariant.replies
          (stops_as (g.G.Gate.recorded c.args.gate.now) c.args.pass.now.line c.loop-piece.pass.line c.loop-piece.pass.view.receipts c.answer.new.pass.view.receipts
          now new c.loop-piece.invariant.same.number c.in_err-answer.ensures.err.recorded);
    })

pub returns-then-is_empty-clause-ok : goal.returns-then-is_empty-clause-ok
returns-then-is_empty-clause-ok g c = record {
  most = c.loop-piece.invariant.most;
  rest = c.in_default.ensures.rest;
  served = subst
      (λ (ahead : List ℕ).
      IsServedTo c.args.pass.now.view.address (c.args.cutter.now ++ c.args.octets.now) ahead c.args.pass.now.view c.loop-piece.pass.view (g.W.Write.contents c.args.writer.now) (g.W.Write.contents c.loop-piece.writer))
      (none_left c.loop-piece.cutter c.loop-piece.left.now (sym c.if-is_empty.ensures))
      c.loop-piece.invariant.served;
  recorded = c.loop-piece.invariant.replies;
}
