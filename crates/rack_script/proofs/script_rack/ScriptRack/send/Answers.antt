use Rattle.std.proofs.Common.{length, set, subst, refl}
use Rattle.std.specs.Prelude.{option_and_then}
use Rattle.std.proofs.lemmas.Option.{slice_get_read}
use Rattle.dp_text.specs.Words.{words_of}
use Rattle.dp_text.specs.HexWords.{octets_of_words}
use Rattle.rack_script.specs.Commands.{sending_of}
use Rattle.rack_script.specs.ScriptText.{ScriptRack, obeyed}
use Rattle.rack_script.specs.Runs.{Obeys}
use Rattle.rack_script.proofs.Sending.{obeys_send}
use Rattle.rack_script.proofs.script_rack.ScriptRack.send.Goals as goal

pub returns : goal.returns
returns g c =
    let lines = c.self.inside.lines.items in
    let chosen = c.self.inside.chosen in
    subst (λ (script_rack : ScriptRack). Obeys (option_and_then (obeyed script_rack) (sending_of c.args.master c.args.digits.now)) (record { lines = set lines chosen c.send.new.self; chosen = chosen })
    (g.W.Write.contents c.args.writer.now) (g.W.Write.contents c.send.new.writer) c.send.result) c.self.view_is
    (obeys_send lines chosen c.index_mut.result.now c.send.new.self c.args.master (octets_of_words (words_of c.args.digits.now)) (g.W.Write.contents c.args.writer.now) (g.W.Write.contents c.send.new.writer) c.send.result
    (slice_get_read lines (length lines) chosen c.index_mut.result.now refl c.self.invariant c.index_mut.ensures.value) c.send.ensures)
