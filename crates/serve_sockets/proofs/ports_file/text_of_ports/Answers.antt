use Rattle.std.proofs.Common.{◌∙◌, ap}
use Rattle.std.proofs.lemmas.List.{take_all}
use Rattle.serve_sockets.specs.Ports.{ports_text}
use Rattle.serve_sockets.proofs.Rows.{one_more_row}
use Rattle.serve_sockets.proofs.ports_file.text_of_ports.Goals as goal

pub loop-line-preserved : goal.loop-line-preserved
loop-line-preserved c =
    one_more_row c.args.ports.now c.loop-line.line-index _ c.loop-line.text.bytes.items c.push_row.new.text.bytes.items c.loop-line.invariant c.in_ok-push_row.ensures
    c.loop-line-test.true

pub returns : goal.returns
returns c = c.loop-line.invariant ∙ ap ports_text (take_all c.loop-line.line-index c.args.ports.now c.loop-line-test.false)
