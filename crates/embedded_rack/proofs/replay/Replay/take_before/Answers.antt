use Rattle.std.proofs.Common.{◌+◌, ◌-◌, ap, ◌∙◌}
use Rattle.embedded_rack.specs.EntryReasons.{replayed}
use Rattle.embedded_rack.proofs.Replaying.{entry_missing, entry_taken}
use Rattle.embedded_rack.proofs.replay.Replay.take_before.Goals as goal

pub returns-in-None : goal.returns-in-None
returns-in-None c =
    entry_missing c.args.book.now c.args.self.now c.loop-next.self c.loop-next.next c.args.place c.loop-next.invariant c.loop-next-test.true c.in-None.ensures

pub loop-next-preserved : goal.loop-next-preserved
loop-next-preserved c =
    ap (λ context. replayed c.args.book.now context (c.loop-next.next + 1) (c.args.place - (c.loop-next.next + 1))) c.take.ensures
    ∙ entry_taken c.args.book.now c.args.self.now c.loop-next.self c.loop-next.next c.args.place c.in-Some.entry c.loop-next.invariant c.loop-next-test.true c.in-Some.ensures
