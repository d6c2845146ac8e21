use Rattle.std.proofs.Common.{◌≡◌, ℕ, ◌+◌, List, None, ap, sym, subst, ◌∙◌, rules}
use Rattle.std.proofs.lemmas.Bool.{ltb-true}
use Rattle.dp_line.specs.World.{description_of}
use Rattle.dp_line.specs.SoundWorld.{restore_fault}
use Rattle.dp_line.specs.Stations.{AreBefore, StationsView, restored_world, slaves_of}
use Rattle.dp_line.proofs.Restorable.{GoesOn, goes_on, has_place_left}
use Rattle.dp_line.proofs.line_state.LineState.restore.Goals as goal

pub restore-requires : goal.restore-requires
restore-requires c =
    let right : restore_fault (restored_world c.args.line.now.masters.items c.args.count c.args.halted c.args.slaves.now) ≡ None =
    sym (c.restore_fault.ensures ∙ ap (λ (ms : List ℕ). restore_fault (restored_world ms c.args.count c.args.halted c.args.slaves.now)) c.deref.ensures.0) ∙ c.in_default.is in
    (goes_on (description_of c.args.line.now) c.args.count c.args.halted c.args.slaves.now c.requires.opens c.requires.slaves right).restorable

pub invariant_of-result : goal.invariant_of-result
invariant_of-result c =
    let right : restore_fault (restored_world c.args.line.now.masters.items c.args.count c.args.halted c.args.slaves.now) ≡ None =
    sym (c.restore_fault.ensures ∙ ap (λ (ms : List ℕ). restore_fault (restored_world ms c.args.count c.args.halted c.args.slaves.now)) c.deref.ensures.0) ∙ c.in_default.is in
    let known : GoesOn c.args.line.now.masters.items c.args.count c.args.halted c.args.slaves.now =
    goes_on (description_of c.args.line.now) c.args.count c.args.halted c.args.slaves.now c.requires.opens c.requires.slaves right in
    let made : c.in_ok-stations.stations ≡ record { masters = c.args.line.now.masters.items; slaves = slaves_of c.args.slaves.now } = search rules in (
      λ running. ltb-true c.args.count 4294967295 (has_place_left c.args.line.now.masters.items c.args.count c.args.halted c.args.slaves.now known.counted running),
      subst (λ (s : StationsView). AreBefore (c.args.count + 1) s.slaves) (sym made) known.before,
    )
