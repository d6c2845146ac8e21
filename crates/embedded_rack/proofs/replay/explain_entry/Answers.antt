use Rattle.dp_line.specs.World.{description_of}
use Rattle.embedded_rack.specs.EntryReasons.{Replays, first_context, replayed}
use Rattle.std.proofs.Common.{◌-◌, subst}
use Rattle.embedded_rack.proofs.Replaying.{kept_explained}
use Rattle.embedded_rack.proofs.replay.explain_entry.Goals as goal

pub returns-in-Ok-explain : goal.returns-in-Ok-explain
returns-in-Ok-explain c =
    let first = first_context c.args.forgets (description_of c.args.line.now) in
    let taken = subst (λ f. Replays (replayed c.args.book.now f 1 (c.args.place - 1)) c.take_before.new.self c.take_before.result) c.in-Ok.ensures c.take_before.ensures in
    kept_explained c.args.book.now first c.args.place c.in-Some.entry c.take_before.new.self c.take_before.result c.in-Ok-explain.reason c.explain.new.sentence.items c.in-Some.ensures taken c.if-take_before.true c.in-Ok-explain.ensures
