use Rattle.std.proofs.Common.{◌≡◌, take}
use Rattle.dp_responder.specs.Memory.{no_memory}
use Rattle.dp_responder.proofs.memory.FrameMemory.new.Given as goal

abbrev pub invariant-loop-master : goal.invariant-loop-master
invariant-loop-master l = l.entries.items ≡ no_memory (take l.master-index l.master-items)
