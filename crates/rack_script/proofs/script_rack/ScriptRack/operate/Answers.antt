use Rattle.std.proofs.Common.{◌∙◌, length, set, subst, refl, ap, rules}
use Rattle.std.specs.Prelude.{option_map, option_and_then}
use Rattle.std.proofs.lemmas.Option.{slice_get_read}
use Rattle.dp_text.specs.OpLines.{op_line_of}
use Rattle.rack_script.specs.Commands.{operation_of}
use Rattle.rack_script.specs.ScriptText.{ScriptRack, obeyed}
use Rattle.rack_script.specs.Runs.{Obeys}
use Rattle.rack_script.proofs.Sending.{obeys_op}
use Rattle.rack_script.proofs.script_rack.ScriptRack.operate.Goals as goal

pub returns : goal.returns
returns g c =
    let lines = c.self.inside.lines.items in
    let chosen = c.self.inside.chosen in
    subst (λ (script_rack : ScriptRack). Obeys (option_and_then (obeyed script_rack) (operation_of c.args.line.now)) (record { lines = set lines chosen c.operate.new.self; chosen = chosen })
    (g.W.Write.contents c.args.writer.now) (g.W.Write.contents c.write_whole.new.writer) c.write_whole.result) c.self.view_is
    (obeys_op lines chosen c.index_mut.result.now c.operate.new.self (op_line_of c.args.line.now) c.operate.result c.as_bytes.result.now
    (g.W.Write.contents c.args.writer.now) (g.W.Write.contents c.write_whole.new.writer) c.write_whole.result
    (slice_get_read lines (length lines) chosen c.index_mut.result.now refl c.self.invariant c.index_mut.ensures.value)
    (search rules)
    (ap (λ text. option_map (λ (d : Unit {0}). record { line = c.operate.new.self; text = text }) c.operate.result) c.as_bytes.ensures ∙ c.operate.ensures.done)
    c.write_whole.ensures.ok c.write_whole.ensures.err c.write_whole.ensures.fault)
