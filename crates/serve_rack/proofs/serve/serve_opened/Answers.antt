use Rattle.std.proofs.Common.{◌≡◌, Err, IfSome, is_some, map, sym, subst, arith}
use Rattle.audit_files.specs.AuditPaths.{IsFileIn}
use Rattle.serve_lines.specs.MasterSessions.{place_at}
use Rattle.serve_lines.specs.ServedLines.{line_numbers}
use Rattle.serve_rack.specs.ServeOutput.{ServesLines}
use Rattle.serve_rack.specs.Serving.{HasLeft}
use Rattle.serve_rack.proofs.serve.serve_opened.Goals as goal

pub overflow_cast-len : goal.overflow_cast-len
overflow_cast-len g c = omega arith

pub end_serving-requires : goal.end_serving-requires
end_serving-requires g c =
    subst (λ ports. HasLeft (map place_at ports) c.in-Ok.outcome.rack.served c.in-Ok.outcome.rack.passes.items) c.deref-6.ensures.value c.in-Ok.ensures.left

pub returns-in-Err : goal.returns-in-Err
returns-in-Err g c =
    subst (λ lines. ServesLines c.args.options.audit (is_some c.args.options.endless) lines (g.W.Write.contents c.args.writer.now) (g.W.Write.contents c.serve_connections-outcome.new.writer) (Err c.in-Err.fault))
    c.deref.ensures.value (c.in-Err.ensures.err (is_some c.args.options.endless))

pub returns : goal.returns
returns g c =
    subst (λ endless. ServesLines c.args.options.audit endless c.args.opened.lines.items (g.W.Write.contents c.args.writer.now) (g.W.Write.contents c.end_serving.new.writer) c.end_serving.result) c.is_some.ensures
    (c.end_serving.ensures c.args.options.audit c.args.opened.lines.items c.requires.opened
    (subst (λ lines. IfSome c.in-Ok.outcome.incomplete (λ file. IsFileIn c.args.options.audit (line_numbers lines) file.path)) c.deref.ensures.value c.in-Ok.ensures.incomplete)
    (g.W.Write.contents c.args.writer.now) c.in-Ok.ensures.ok)
