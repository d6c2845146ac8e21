use Rattle.std.proofs.Common.{arith}
use Rattle.std.proofs.lemmas.List.Edits.{map_over_more}
use Rattle.dp_responder.specs.Memory.{master_after}
use Rattle.dp_responder.proofs.memory.remember_in.Goals as goal

pub loop-entry-preserved : goal.loop-entry-preserved
loop-entry-preserved c =
    let step = map_over_more (master_after c.args.sender c.args.fc c.args.reply.now) c.args.entries.now c.loop-entry.entries c.loop-entry.entry-index c.entry-item.result (omega arith) c.loop-entry.invariant c.entry-item.is in
    rw (c.remember.ensures, ← c.entry-item.is) step
