use Rattle.std.proofs.Common.{◌≡◌, ◌++◌, map, take, drop}
use Rattle.dp_responder.specs.Memory.{master_after}
use Rattle.dp_responder.proofs.memory.remember_in.Given as goal

-- the first entries are as the request leaves them, the others are unchanged
abbrev pub invariant-loop-entry : goal.invariant-loop-entry
invariant-loop-entry l =
    l.entries ≡ map (master_after l.sender l.fc l.reply) (take l.entry-index l.initial.entries) ++ drop l.entry-index l.initial.entries
