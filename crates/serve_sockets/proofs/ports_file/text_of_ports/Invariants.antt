use Rattle.std.proofs.Common.{◌≡◌, take}
use Rattle.serve_sockets.specs.Ports.{ports_text}
use Rattle.serve_sockets.proofs.ports_file.text_of_ports.Given as goal

abbrev pub invariant-loop-line : goal.invariant-loop-line
invariant-loop-line l = l.text.bytes.items ≡ ports_text (take l.line-index l.fn.ports)
