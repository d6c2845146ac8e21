use Rattle.std.proofs.Common.{◌≡◌, ℕ, ap, sym, subst, ◌∙◌}
use Rattle.std.specs.List.{AllByRecursion}
use Rattle.dp_shared.specs.LineLock.{IsPassOf}
use Rattle.dp_shared.specs.Passes.{PassIn}
use Rattle.audit_trail.specs.Trails.{IsWhole, parts_text}
use Rattle.test_sessions.proofs.trail_clients.serve_with_a_trail.Goals as goal

pub returns-in-Ok-close_with : goal.returns-in-Ok-close_with
returns-in-Ok-close_with g c =
    let tail = c.catch_up.new.self in
    let closed = c.in-Ok-close_with.closed in
    let own = c.args.line.table.shared.key in
    let known = c.in-Ok-close_with.ensures.closed in
    let contents = g.A.Write.contents in
    let looks = tail.pass.view.looks in
    let number : tail.pass.line ≡ own.number = c.catch_up.ensures.same.number ∙ c.in-Ok.ensures.pass.0 in
    let opened : tail.opened.value ≡ c.args.text = ap (λ o. o.value) c.catch_up.ensures.same.opened ∙ c.in-Ok.ensures.opened in
    let given : c.close-text.result ≡ (tail.writer, tail.pass) = c.close-text.ensures in
    let passes = subst (AllByRecursion (λ (pass : PassIn). IsPassOf closed pass.view)) c.in_ok-listed.ensures known.3 in
    let returned = subst (AllByRecursion (λ (pass : PassIn). IsPassOf closed pass.view)) c.in_ok-returned.ensures known.4 in
    let tail_fits = subst (λ (pass : PassIn). IsPassOf closed pass.view) (ap (λ r. r.1) given) returned.0 in
    let whole = tail.whole c.in-Ok-catch_up.ensures.ok.0 in record {
      answered = (
        c.serve_pass.new.pass.view,
        tail.pass.view,
        c.serve_pass.result,
        tail.version,
        c.serve_pass.ensures.exchanged,
        subst (λ w. IsWhole (contents c.args.text) (contents w) (parts_text tail.version own.number looks)) (sym (ap (λ r. r.0) given))
            (subst (λ o. IsWhole (contents o) (contents tail.writer) (parts_text tail.version own.number looks)) opened
            (subst (λ (n : ℕ). IsWhole (contents tail.opened.value) (contents tail.writer) (parts_text tail.version n looks)) number whole)),
        λ place at receipt within is placed.
            c.a_receipt_that_a_trail_saw_has_its_text_line.ensures.closed own closed c.serve_pass.new.pass.view tail.pass.view tail.version place at receipt
            known.0 known.1 passes.0.fits tail_fits.fits tail.places within is placed,
      );
    }
