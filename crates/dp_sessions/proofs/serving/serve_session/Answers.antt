use Rattle.std.proofs.Common.{ℕ, List, ◌-◌, [], ◌∷◌, ap, sym, subst, ◌∙◌, arith}
use Rattle.dp_audit.specs.declared.entry.Receipt.{Receipt}
use Rattle.dp_shared.specs.Claims.{released}
use Rattle.dp_shared.specs.Passes.{new_pass}
use Rattle.dp_shared.specs.declared.line_view.PassView.{PassView}
use Rattle.dp_sessions.specs.Recorded.{WritesRecorded}
use Rattle.dp_sessions.specs.Sessions.{Accepts, acceptance}
use Rattle.dp_sessions.proofs.Exchanging.{consumes_more}
use Rattle.dp_sessions.proofs.serving.serve_session.Goals as goal

pub returns-clause-session : goal.returns-clause-session
returns-clause-session g c =
    let pass = c.in-Ok-admit.ensures.pass in
    let accepted = c.accept-end.ensures.accepted in
    let left = g.R.Read.remaining c.accept-end.new.reader in
    let old = g.W.Write.contents c.args.writer.now in
    let new = g.W.Write.contents c.accept-end.new.writer in
    let given = ap (λ p. p.view) c.hand_back-returned_pass.ensures in (
      ap (λ p. p.table) c.hand_back-returned_pass.ensures ∙ c.accept-end.ensures.ours ∙ pass.0,
      record {
        address = c.in-Ok.address;
        stream = accepted.0;
        read = consumes_more (g.R.Read.remaining c.args.reader.now) (g.R.Read.remaining c.first_octet.new.reader) left (c.in-Ok.address ∷ []) accepted.0 c.in-Ok.ensures.ok accepted.2;
        known = c.in-Ok-admit.ensures.known;
        freed = c.release.ensures.released ∙ ap released c.in-Ok-admit.ensures.claimed;
        behind = c.args.turns - 1;
        first = (let more = c.if-turns-eq0.false in omega (arith, more));
        made = accepted.1;
        most = accepted.3;
        number = c.in-Ok-admit.pass.view.number;
        accepted =
            subst (λ (after : PassView). Accepts c.accept-end.result c.in-Ok.address (c.args.turns - 1) accepted.1 accepted.0 (new_pass c.in-Ok-admit.pass.view.number c.in-Ok.address) after left old new) (sym given)
            (subst (λ (before : PassView). Accepts c.accept-end.result before.address (c.args.turns - 1) accepted.1 accepted.0 before c.accept-end.new.pass.view left old new) pass.1 accepted.4);
      },
    )

pub returns-clause-recorded : goal.returns-clause-recorded
returns-clause-recorded g c =
    let pass = c.in-Ok-admit.ensures.pass in
    let old = g.W.Write.contents c.args.writer.now in
    let new = g.W.Write.contents c.accept-end.new.writer in
    let given = ap (λ p. p.view.receipts) c.hand_back-returned_pass.ensures in
    let begun = ap (λ (p : PassView). p.receipts) pass.1 in
    subst (λ (xs : List Receipt). WritesRecorded (g.G.Gate.recorded c.args.gate.now c.args.port.now.line.table.shared.key.number) acceptance [] xs old new c.accept-end.result) (sym given)
    (subst (λ (xs : List Receipt). WritesRecorded (g.G.Gate.recorded c.args.gate.now c.args.port.now.line.table.shared.key.number) acceptance xs c.accept-end.new.pass.view.receipts old new c.accept-end.result) begun
    (subst (λ (n : ℕ). WritesRecorded (g.G.Gate.recorded c.args.gate.now n) acceptance c.in-Ok-admit.pass.view.receipts c.accept-end.new.pass.view.receipts old new c.accept-end.result) c.in-Ok-admit.ensures.number
    c.accept-end.ensures.recorded))
