use Rattle.std.proofs.Common.{◌≡◌, map, take}
use Rattle.embedded_rack.specs.EmbeddedLines.{empty_stream}
use Rattle.embedded_rack.proofs.stream.empty_streams.Given as goal

abbrev pub invariant-loop-master : goal.invariant-loop-master
invariant-loop-master l = l.streams.items ≡ map empty_stream (take l.master-index l.masters)
