use Rattle.std.proofs.Common.{◌≡◌, List, [], ◌∷◌, ◌++◌, refl}
use Rattle.std.proofs.lemmas.List.Elements.{All-from_recursion, All-get_or}
use Rattle.std.proofs.lemmas.List.Folds.{find_at}
use Rattle.std.proofs.lemmas.Option.{get_or_from_slice_get, slice_get_within}
use Rattle.dp_slave.specs.Soundness.{IsSound}
use Rattle.dp_line.specs.declared.event.Event.{Event}
use Rattle.dp_line.specs.World.{World, start_of}
use Rattle.dp_line.specs.Steps.{run, step}
use Rattle.test_lines.proofs.clients.a_slave_is_sound_after_further_events.Goals as goal

-- a run of events that is followed by further events
run-append : (world : World) (events further : List Event) → (run world (events ++ further)).world ≡ (run (run world events).world further).world
run-append world [] further = refl
run-append world (event ∷ events) further = run-append (step world event).world events further

pub returns : goal.returns
returns c = λ line events further address slave here.
    let at = rw (← run-append (start_of line) events further, find_at) at here in
    let sound = All-from_recursion IsSound _ (c.each_slave_stays_sound.ensures line (events ++ further)) in
    rw (get_or_from_slice_get _ _ slave slave at) at (All-get_or IsSound _ _ slave (slice_get_within _ _ slave at) sound)
