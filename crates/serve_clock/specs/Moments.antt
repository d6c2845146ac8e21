-- detail
-- The time of a line, and what is due at regular times: moments are milliseconds from the start (own).
use Rattle.std.specs.Prelude.{ℕ, ◌+◌, ◌-◌, ◌/◌, ◌%◌, min, Bool, false, nat_lt, if◌then◌else◌, List, [], ◌∷◌, Option, Some, None, option_map}
use Rattle.std.specs.Option.{option_map_or}
use Rattle.serve_clock.specs.declared.beat.Beat.{Beat}
use Rattle.serve_clock.specs.declared.line_time.Advance.{Advance}
use Rattle.serve_clock.specs.declared.line_time.LineTime.{LineTime}
use Rattle.serve_clock.specs.declared.schedule.Due.{Due}
use Rattle.serve_clock.specs.declared.schedule.Schedule.{Schedule}

-- ---- the time of a line

-- the units of 10 ms that have passed at a moment
abbrev pub units_passed : ℕ → ℕ
units_passed moment = moment / 10

-- one tick has at most twice the milliseconds from tick to tick, in whole units of 10 ms
abbrev pub first_time : ℕ → LineTime
first_time tick = record { most = tick / 5; counted = 0 }

-- the units that have passed at a moment, and neither passed on the line nor were cut off before
abbrev pub units_since : LineTime → ℕ → ℕ
units_since time moment = units_passed moment - time.counted

abbrev pub units_at : LineTime → ℕ → ℕ
units_at time moment = min (units_since time moment) time.most

-- of these, as many pass on the line as one tick may have; the others are cut off
abbrev pub advance_at : LineTime → ℕ → Advance
advance_at time moment = record { units = units_at time moment; cut_off = units_since time moment - units_at time moment }

abbrev pub time_after : LineTime → ℕ → LineTime
time_after time moment = record time { counted = time.counted + units_since time moment }

-- ---- actions that are due at regular times

abbrev pub first_beat : ℕ → Beat
first_beat every = record { every = every; last = 0 }

-- a multiple of its milliseconds has passed since it was done last
abbrev pub is_due : Beat → ℕ → Bool
is_due beat moment = nat_lt (beat.last / beat.every) (moment / beat.every)

-- an action that is due at a moment is marked as done
abbrev pub beat_after : Beat → ℕ → Beat
beat_after beat moment = if is_due beat moment then record beat { last = moment } else beat

-- the milliseconds to the next multiple; 0 if it is due
abbrev pub wait_at : Beat → ℕ → ℕ
wait_at beat moment = if is_due beat moment then 0 else beat.every - moment % beat.every

-- ---- a schedule

abbrev pub first_schedule : Option ℕ → Option ℕ → Schedule
first_schedule tick step = record { tick = option_map first_beat tick; step = option_map first_beat step }

-- without an action nothing is due
abbrev pub is_taken : Option Beat → ℕ → Bool
is_taken beat moment = option_map_or (λ beat. is_due beat moment) beat false

abbrev pub taken_after : Option Beat → ℕ → Option Beat
taken_after beat moment = option_map (λ beat. beat_after beat moment) beat

abbrev pub due_at : Schedule → ℕ → Due
due_at schedule moment = record { tick = is_taken schedule.tick moment; step = is_taken schedule.step moment }

abbrev pub schedule_after : Schedule → ℕ → Schedule
schedule_after schedule moment = record { tick = taken_after schedule.tick moment; step = taken_after schedule.step moment }

-- the milliseconds until the first of the two is due
abbrev pub least : Option ℕ → Option ℕ → Option ℕ
least (Some tick) (Some step) = Some (min tick step)
least (Some tick) None = Some tick
least None step = step

abbrev pub wait_for_both : Schedule → ℕ → Option ℕ
wait_for_both schedule moment =
    least (option_map (λ beat. wait_at beat moment) schedule.tick) (option_map (λ beat. wait_at beat moment) schedule.step)

-- ---- over lists of moments

abbrev pub time_after_all : LineTime → List ℕ → LineTime
time_after_all time [] = time
time_after_all time (moment ∷ moments) = time_after_all (time_after time moment) moments

-- how far the time advances at each moment
abbrev pub advances_at_each : LineTime → List ℕ → List Advance
advances_at_each time [] = []
advances_at_each time (moment ∷ moments) = advance_at time moment ∷ advances_at_each (time_after time moment) moments

-- the units that pass on the line in all
abbrev pub units_in_all : List Advance → ℕ
units_in_all [] = 0
units_in_all (advance ∷ others) = advance.units + units_in_all others

-- the units that are cut off in all
abbrev pub cut_off_in_all : List Advance → ℕ
cut_off_in_all [] = 0
cut_off_in_all (advance ∷ others) = advance.cut_off + cut_off_in_all others

-- how many of these moments an action is done at
abbrev pub times_due : Beat → List ℕ → ℕ
times_due beat [] = 0
times_due beat (moment ∷ moments) = (if is_due beat moment then 1 else 0) + times_due (beat_after beat moment) moments
