use Rattle.std.proofs.Common.{Bool, sym, ap, ◌∙◌}
use Rattle.std.specs.Prelude.{◌&&◌}
use Rattle.dp_line.specs.SoundWorld.{has_sound_end}
use Rattle.dp_line.specs.Stations.{restored_world}
use Rattle.dp_line.proofs.line_state.restoring.has_sound_count.Goals as goal

pub returns-then-have_places : goal.returns-then-have_places
returns-then-have_places c masters =
    c.has_sound_end.ensures masters
    ∙ ap (λ (b : Bool). b && has_sound_end (restored_world masters c.args.count c.args.halted c.args.slaves.now)) (sym (sym c.have_places.ensures ∙ c.if-have_places.true))
