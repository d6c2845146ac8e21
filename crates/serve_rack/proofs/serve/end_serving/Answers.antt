use Rattle.std.proofs.Common.{Err, map, subst, sym}
use Rattle.serve_faults.specs.ServeFaults.{of_output_fault}
use Rattle.serve_rack.specs.ServeOutput.{ServesLines}
use Rattle.serve_lines.specs.AuditTexts.{line_at}
use Rattle.serve_lines.proofs.Opening.{opened_specs}
use Rattle.serve_rack.proofs.LinesServed.{closed_to, closed_whole, left_endless, left_ours, served_in_part}
use Rattle.serve_rack.proofs.serve.end_serving.Goals as goal

pub write_audits-requires : goal.write_audits-requires
write_audits-requires g c = left_ours c.args.ports.items c.args.outcome.rack.served c.args.outcome.rack.passes.items c.requires

pub returns-then-are_endless : goal.returns-then-are_endless
returns-then-are_endless g c = λ folder lines opened among old said.
    rw c.if-are_endless.true
    (c.result_of.ensures.serves folder lines among old (g.W.Write.contents c.args.writer.now) said
    (left_endless lines c.args.ports.items c.args.outcome.rack.served c.args.outcome.rack.passes.items old (g.W.Write.contents c.args.writer.now) opened c.requires said))

pub returns-in-Ok : goal.returns-in-Ok
returns-in-Ok g c = λ folder lines opened among old said.
    rw c.if-are_endless.false
    (c.result_of-in-Ok.ensures.serves folder lines among old (g.W.Write.contents c.write_audits.new.writer)
    (closed_whole lines c.args.ports.items c.args.outcome.rack.passes.items old (g.W.Write.contents c.args.writer.now) (g.W.Write.contents c.write_audits.new.writer) opened said c.in-Ok.ensures)
    (closed_to lines c.args.ports.items c.args.outcome.rack.served c.args.outcome.rack.passes.items old (g.W.Write.contents c.args.writer.now) (g.W.Write.contents c.write_audits.new.writer)
    c.a_master_has_its_entries.ensures.fits opened c.requires said c.in-Ok.ensures))

pub returns-in-Err : goal.returns-in-Err
returns-in-Err g c = λ folder lines opened among old said.
    subst (λ fault. ServesLines folder c.args.are_endless lines old (g.W.Write.contents c.write_audits.new.writer) (Err fault)) (sym c.from.ensures)
    (subst (λ endless. ServesLines folder endless lines old (g.W.Write.contents c.write_audits.new.writer) (Err (of_output_fault c.in-Err.fault))) (sym c.if-are_endless.false)
    (served_in_part folder lines (map line_at c.args.ports.items) c.args.outcome.rack.passes.items old (g.W.Write.contents c.args.writer.now) (g.W.Write.contents c.write_audits.new.writer)
    c.in-Err.fault (opened_specs lines c.args.ports.items opened) said c.in-Err.ensures))
