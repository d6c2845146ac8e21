use Rattle.std.proofs.Common.{◌≡◌, [], is_some, map, refl, subst}
use Rattle.serve_lines.specs.ServedLines.{as_opened}
use Rattle.serve_sessions.specs.Ready.{ready}
use Rattle.serve_rack.proofs.LinesServed.{served_as_opened, some_of_ready}
use Rattle.serve_lines.proofs.Writing.{appends_none}
use Rattle.serve_rack.proofs.serve.open_and_serve.Goals as goal

pub returns : goal.returns
returns g c =
    served_as_opened c.args.options.audit (is_some c.args.options.endless) c.args.lines.items c.in-Ok.opened.lines.items (g.W.Write.contents c.args.writer.now)
    (g.W.Write.contents c.serve_opened.new.writer) c.serve_opened.result
    (subst (λ endless. c.in-Ok.opened.lines.items ≡ map (as_opened endless) c.args.lines.items) c.is_some.ensures c.in-Ok.ensures.lines) c.serve_opened.ensures

pub returns-in_default : goal.returns-in_default
returns-in_default g c =
    let old = g.W.Write.contents c.args.writer.now in
    some_of_ready (is_some c.args.options.endless) c.args.lines.items old old ([], ready, refl, appends_none old)
