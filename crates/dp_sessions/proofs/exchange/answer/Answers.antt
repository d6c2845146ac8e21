use Rattle.std.proofs.Common.{◌≡◌, ℕ, [], ◌∷◌, ap, subst}
use Rattle.std.specs.Prelude.{IfSome}
use Rattle.dp_telegram.specs.declared.cutter.Cut.{Cut}
use Rattle.dp_telegram.specs.Stream.{cut_lent}
use Rattle.dp_line.specs.declared.event.Event.TheVariants.{Request}
use Rattle.dp_audit.specs.Journal.{receipt_of}
use Rattle.dp_sessions.specs.Sessions.{requests_in}
use Rattle.dp_sessions.proofs.Exchanging.{none_exchanged, appends_none, one_exchanged, one_written, one_broken}
use Rattle.dp_sessions.proofs.Operating.{both_failed, both_ok}
use Rattle.dp_sessions.proofs.Recording.{replies_none, reply_stopped, reply_unrecorded, reply_written, silent_unplaced, unwritten}
use Rattle.dp_sessions.proofs.exchange.answer.Goals as goal

-- the place is recorded before the reply is written
pub returns-in-Ok-clause-ok : goal.returns-in-Ok-clause-ok
returns-in-Ok-clause-ok g c =
    let master = c.args.pass.now.view.address in
    let receipt = receipt_of (Request master (record { items = c.in-Frame.frame })) c.exchange_frame.new.answer in
    let requested : requests_in master ((cut_lent c.args.piece) ∷ []) ≡ receipt.event ∷ [] = ap (λ (cut : Cut). requests_in master (cut ∷ [])) (ap cut_lent c.in-Frame.is) in
    both_ok c.write_whole.result (λ written recorded. record { written = written; recorded = recorded })
    (one_written c.write_whole.result master (cut_lent c.args.piece) receipt c.args.pass.now.view c.exchange_frame.new.pass.view (g.W.Write.contents c.args.writer.now) (g.W.Write.contents c.write_whole.new.writer) c.octets_in.result.now
    (one_exchanged master (cut_lent c.args.piece) receipt c.args.pass.now.view c.exchange_frame.new.pass.view requested c.exchange_frame.ensures.pass
    (record { halted = c.exchange_frame.ensures.halted; running = c.exchange_frame.ensures.running })) c.octets_in.ensures c.write_whole.ensures.ok)
    (reply_written c.write_whole.result (g.G.Gate.recorded c.args.gate.now c.args.pass.now.line) c.args.pass.now.view c.exchange_frame.new.pass.view receipt
    (g.W.Write.contents c.args.writer.now) (g.W.Write.contents c.write_whole.new.writer) c.octets_in.result.now c.exchange_frame.ensures.pass
    (silent_unplaced receipt receipt.place c.exchange_frame.ensures.halted)
    (subst (λ (n : ℕ). IfSome receipt.place (g.G.Gate.recorded c.args.gate.now n)) c.line-number.ensures c.in-Ok.ensures) c.octets_in.ensures c.write_whole.ensures.ok)

pub returns-in-Ok-clause-err : goal.returns-in-Ok-clause-err
returns-in-Ok-clause-err g c =
    let master = c.args.pass.now.view.address in
    let receipt = receipt_of (Request master (record { items = c.in-Frame.frame })) c.exchange_frame.new.answer in
    let requested : requests_in master ((cut_lent c.args.piece) ∷ []) ≡ receipt.event ∷ [] = ap (λ (cut : Cut). requests_in master (cut ∷ [])) (ap cut_lent c.in-Frame.is) in
    both_failed c.write_whole.result (λ written recorded. record { written = written; recorded = recorded })
    (one_broken c.write_whole.result master (cut_lent c.args.piece) receipt c.args.pass.now.view c.exchange_frame.new.pass.view (g.W.Write.contents c.args.writer.now) (g.W.Write.contents c.write_whole.new.writer) c.octets_in.result.now
    (one_exchanged master (cut_lent c.args.piece) receipt c.args.pass.now.view c.exchange_frame.new.pass.view requested c.exchange_frame.ensures.pass
    (record { halted = c.exchange_frame.ensures.halted; running = c.exchange_frame.ensures.running })) c.octets_in.ensures c.write_whole.ensures.err)
    (reply_stopped c.write_whole.result (g.G.Gate.recorded c.args.gate.now c.args.pass.now.line) c.args.pass.now.view c.exchange_frame.new.pass.view receipt
    (g.W.Write.contents c.args.writer.now) (g.W.Write.contents c.write_whole.new.writer) c.octets_in.result.now c.exchange_frame.ensures.pass
    (silent_unplaced receipt receipt.place c.exchange_frame.ensures.halted)
    (subst (λ (n : ℕ). IfSome receipt.place (g.G.Gate.recorded c.args.gate.now n)) c.line-number.ensures c.in-Ok.ensures) c.octets_in.ensures c.write_whole.ensures.err)

-- octets that are dropped are no request, and write nothing
pub returns-in-Dropped-clause-ok : goal.returns-in-Dropped-clause-ok
returns-in-Dropped-clause-ok g c = record {
  written = (
    [],
    none_exchanged c.args.pass.now.view.address (cut_lent c.args.piece) c.args.pass.now.view
        (ap (λ (cut : Cut). requests_in c.args.pass.now.view.address (cut ∷ [])) (ap cut_lent c.in-Dropped.is)),
    appends_none (g.W.Write.contents c.args.writer.now),
  );
  recorded = replies_none (g.G.Gate.recorded c.args.gate.now c.args.pass.now.line) c.args.pass.now.view.receipts (g.W.Write.contents c.args.writer.now);
}

-- the place is not recorded, and no octet of the reply is written
pub returns-in_default-clause-err : goal.returns-in_default-clause-err
returns-in_default-clause-err g c =
    let master = c.args.pass.now.view.address in
    let receipt = receipt_of (Request master (record { items = c.in-Frame.frame })) c.exchange_frame.new.answer in
    let requested : requests_in master ((cut_lent c.args.piece) ∷ []) ≡ receipt.event ∷ [] = ap (λ (cut : Cut). requests_in master (cut ∷ [])) (ap cut_lent c.in-Frame.is) in
    record {
      written = (
        receipt ∷ [],
        one_exchanged master (cut_lent c.args.piece) receipt c.args.pass.now.view c.exchange_frame.new.pass.view requested c.exchange_frame.ensures.pass
            (record { halted = c.exchange_frame.ensures.halted; running = c.exchange_frame.ensures.running }),
        unwritten (g.W.Write.contents c.args.writer.now) receipt,
      );
      recorded = reply_unrecorded (g.G.Gate.recorded c.args.gate.now c.args.pass.now.line) c.args.pass.now.view c.exchange_frame.new.pass.view receipt (g.W.Write.contents c.args.writer.now)
          c.exchange_frame.ensures.pass;
    }
