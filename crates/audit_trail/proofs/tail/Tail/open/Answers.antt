use Rattle.std.specs.Io.KnownBytes.{Appends}
use Rattle.std.proofs.Common.{ℕ, ap, sym, subst, ◌∙◌}
use Rattle.dp_audit.specs.AuditText.{header_text, line_text}
use Rattle.audit_trail.proofs.Trailing.{begun_of_whole, opened_tail}
use Rattle.audit_trail.proofs.tail.Tail.open.Goals as goal

pub invariant_of-result : goal.invariant_of-result
invariant_of-result g c =
    let (may, table, line, capacity, view) = c.in-Ok.ensures.ok in
    let tail = opened_tail c.in-Ok.pass.view c.in-Ok.pass.view.number _ c.version_of-version.result c.in-Ok.pass.line (g.W.Write.contents c.of-opened.result.value) (g.W.Write.contents c.write_whole.new.writer)
    c.as_bytes.result.now view (c.as_bytes.ensures ∙ c.set_header_line.ensures ∙ ap (λ (n : ℕ). line_text (header_text c.version_of-version.result n)) c.line.ensures) (subst (λ w. Appends (g.W.Write.contents w) (g.W.Write.contents c.write_whole.new.writer) c.as_bytes.result.now) (sym c.of-opened.ensures) c.in-Ok-write_whole.ensures.ok) in
    record { ours = table; places = tail.0; counted = tail.1; heads = tail.2; begun = begun_of_whole _ _ _ tail.3; whole = λ _. tail.3 }
