use Rattle.std.proofs.Common.{rules, ◌≡◌, ◌∷◌, ◌++◌, [], drop, length, map, sym, ap, subst, ◌∙◌, append_assoc}
use Rattle.std.proofs.lemmas.List.{append-nil, length_push, nil_from_length}
use Rattle.std.specs.List.{AllByRecursion}
use Rattle.std.specs.Vec.Iter.{into_iter_items}
use Rattle.dp_shared.specs.Passes.{PassIn, table_of}
use Rattle.serve_lines.specs.AuditTexts.{AreClosed, line_at}
use Rattle.serve_lines.specs.ReturnedPasses.{AreOfPort}
use Rattle.serve_lines.proofs.AuditTexts.{holds_of_next, lists_left, none_closed, one_more_port, port_here, ports_break_off}
use Rattle.serve_lines.proofs.AnsweredMasters.{paired_at}
use Rattle.serve_lines.proofs.audits.write_audits.Goals as goal

pub loop-port-init : goal.loop-port-init
loop-port-init g c = (tt, tt, search rules, none_closed c.args.passes.items (g.W.Write.contents c.args.writer.now), search rules)

pub write_audit-requires : goal.write_audit-requires
write_audit-requires g c =
    let rest : c.loop-port.port-iterator.rest.items ≡ c.in-Some.port ∷ c.next.new.self.rest.items = search rules in
    let here = port_here c.loop-port.yielded c.in-Some.port c.next.new.self.rest.items c.loop-port.port-iterator.rest.items c.args.ports.items rest c.loop-port.invariant.2 in
    holds_of_next c.args.passes.items (into_iter_items c.loop-port.lists) (into_iter_items c.next_list-passes.new.lists) c.next_list-passes.result (length c.loop-port.yielded)
    c.loop-port.invariant.4 c.next_list-passes.ensures
    (AllByRecursion (λ (pass : PassIn). pass.table ≡ table_of c.in-Some.port.line))
    (λ list there. paired_at AreOfPort c.args.ports.items c.args.passes.items (length c.loop-port.yielded) c.in-Some.port list c.requires here there)
    tt

pub returns-in-Err : goal.returns-in-Err
returns-in-Err g c =
    ports_break_off line_at c.loop-port.yielded c.in-Some.port c.next.new.self.rest.items c.loop-port.port-iterator.rest.items c.args.ports.items
    c.next_list-passes.result c.args.passes.items
    (g.W.Write.contents c.args.writer.now) (g.W.Write.contents c.loop-port.writer) (g.W.Write.contents c.write_audit.new.writer) c.in-Err.fault
    (search rules) c.loop-port.invariant.2 c.loop-port.invariant.3 c.in-Err.ensures

pub loop-port-preserved : goal.loop-port-preserved
loop-port-preserved g c =
    let rest : c.loop-port.port-iterator.rest.items ≡ c.in-Some.port ∷ c.next.new.self.rest.items = search rules in (
      tt,
      tt,
      append_assoc c.loop-port.yielded (c.in-Some.port ∷ []) c.next.new.self.rest.items ∙ ap (λ ps. c.loop-port.yielded ++ ps) (sym rest) ∙ c.loop-port.invariant.2,
      one_more_port line_at c.loop-port.yielded c.in-Some.port c.args.passes.items (into_iter_items c.loop-port.lists) (into_iter_items c.next_list-passes.new.lists) c.next_list-passes.result
          (g.W.Write.contents c.args.writer.now) (g.W.Write.contents c.loop-port.writer) (g.W.Write.contents c.write_audit.new.writer)
          c.loop-port.invariant.4 c.next_list-passes.ensures c.loop-port.invariant.3 c.in-Ok.ensures,
      lists_left c.args.passes.items (into_iter_items c.loop-port.lists) (into_iter_items c.next_list-passes.new.lists) c.next_list-passes.result (length c.loop-port.yielded)
          c.loop-port.invariant.4 c.next_list-passes.ensures ∙ ap (λ n. drop n c.args.passes.items) (sym (length_push c.loop-port.yielded c.in-Some.port)),
    )

pub returns : goal.returns
returns g c =
    let none : c.loop-port.port-iterator.rest.items ≡ [] = nil_from_length c.loop-port.port-iterator.rest.items (search rules) in
    let whole : c.loop-port.yielded ≡ c.args.ports.items = sym (append-nil c.loop-port.yielded) ∙ ap (λ ps. c.loop-port.yielded ++ ps) (sym none) ∙ c.loop-port.invariant.2 in
    subst (λ ps. AreClosed (map line_at ps) c.args.passes.items (g.W.Write.contents c.args.writer.now) (g.W.Write.contents c.loop-port.writer)) whole c.loop-port.invariant.3
