-- helper
-- Examples of moments.
use Rattle.std.specs.Prelude.{◌≡◌, ℕ, true, false, List, [], ◌∷◌, Some, None, map, refl}
use Rattle.dp_line.specs.declared.event.Event.TheVariants.{Operator}
use Rattle.dp_line.specs.declared.event.Op.TheVariants.{Tick}
use Rattle.serve_clock.specs.Advances.{ticks_of}
use Rattle.serve_clock.specs.Moments.{advances_at_each, due_at, first_beat, first_schedule, first_time, schedule_after, times_due, wait_at, wait_for_both}

-- the units that pass on a line at each moment, if a tick comes at least once in this number of milliseconds
abbrev units_by : ℕ → List ℕ → List ℕ
units_by tick moments = map (λ advance. advance.units) (advances_at_each (first_time tick) moments)

abbrev cut_off_by : ℕ → List ℕ → List ℕ
cut_off_by tick moments = map (λ advance. advance.cut_off) (advances_at_each (first_time tick) moments)

-- before a request the whole units pass that have passed since the tick before
pub a_request_between_ticks : units_by 100 (7 ∷ 14 ∷ 21 ∷ 100 ∷ 107 ∷ 200 ∷ []) ≡ 0 ∷ 1 ∷ 1 ∷ 8 ∷ 0 ∷ 10 ∷ []
a_request_between_ticks = refl

-- a late tick has the units that have passed, and the next one the rest
pub a_late_tick : units_by 100 (0 ∷ 99 ∷ 100 ∷ 257 ∷ 300 ∷ 305 ∷ []) ≡ 0 ∷ 9 ∷ 1 ∷ 15 ∷ 5 ∷ 0 ∷ []
a_late_tick = refl

-- milliseconds that make no whole unit pass with the next tick
pub parts_of_units : units_by 15 (15 ∷ 30 ∷ 45 ∷ 60 ∷ []) ≡ 1 ∷ 2 ∷ 1 ∷ 2 ∷ []
parts_of_units = refl

-- a program that was held up for 400 ms: of 41 units 2 pass, and the next tick doesn't make up for the others
pub held_up : units_by 10 (10 ∷ 420 ∷ 430 ∷ []) ≡ 1 ∷ 2 ∷ 1 ∷ []
held_up = refl

pub what_is_cut_off : cut_off_by 10 (10 ∷ 420 ∷ 430 ∷ []) ≡ 0 ∷ 39 ∷ 0 ∷ []
what_is_cut_off = refl

-- each moment at which a unit passes has one tick, and the others have none
pub the_ticks_of_moments : ticks_of (advances_at_each (first_time 10) (7 ∷ 10 ∷ 15 ∷ 420 ∷ 430 ∷ [])) ≡ Operator (Tick 1) ∷ Operator (Tick 2) ∷ Operator (Tick 1) ∷ []
the_ticks_of_moments = refl

-- a clock that went back advances nothing
pub a_moment_before : units_by 100 (150 ∷ 120 ∷ 160 ∷ []) ≡ 15 ∷ 0 ∷ 1 ∷ []
a_moment_before = refl

-- what is late is done once
pub a_late_step : times_due (first_beat 20) (20 ∷ 20 ∷ 75 ∷ 75 ∷ 76 ∷ []) ≡ 2
a_late_step = refl

pub both_are_due : due_at (first_schedule (Some 20) (Some 50)) 60 ≡ record { tick = true; step = true }
both_are_due = refl

pub only_one_is_due : due_at (schedule_after (first_schedule (Some 20) (Some 50)) 60) 80 ≡ record { tick = true; step = false }
only_one_is_due = refl

pub wait_to_the_multiple : wait_at (first_beat 100) 30 ≡ 70
wait_to_the_multiple = refl

pub no_wait : wait_at (first_beat 100) 100 ≡ 0
no_wait = refl

pub the_first_of_both : wait_for_both (first_schedule (Some 100) (Some 40)) 30 ≡ Some 10
the_first_of_both = refl

pub nothing_is_ever_due : wait_for_both (first_schedule None None) 30 ≡ None
nothing_is_ever_due = refl
