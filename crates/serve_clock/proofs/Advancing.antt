-- How far the time of a line advances over lists of moments.
use Rattle.std.proofs.Common.{◌≡◌, ℕ, ◌+◌, ◌-◌, ◌*◌, ◌<◌, ◌≤◌, min, List, [], ◌∷◌, ◌++◌, All, refl, ap, arith}
use Rattle.std.proofs.lemmas.List.Elements.{All-head, All-tail}
use Rattle.serve_clock.specs.declared.line_time.LineTime.{LineTime}
use Rattle.serve_clock.specs.Moments.{advance_at, advances_at_each, cut_off_in_all, first_time, time_after, time_after_all, units_in_all, units_passed}

parts : (since most : ℕ) → min since most + (since - min since most) ≡ since
parts since most = omega arith

-- each unit that is counted has passed on the line or was cut off
all_counted : (time : LineTime) (moments : List ℕ)
    → time.counted + (units_in_all (advances_at_each time moments) + cut_off_in_all (advances_at_each time moments)) ≡ (time_after_all time moments).counted
all_counted time [] = omega arith
all_counted time (moment ∷ moments) =
    omega (arith, parts (units_passed moment - time.counted) time.most, all_counted (time_after time moment) moments)

-- no unit is counted that has not passed by the latest moment
counted_within : (time : LineTime) (moments : List ℕ) (latest : ℕ) → All (λ moment. moment ≤ latest) moments → time.counted ≤ units_passed latest
    → (time_after_all time moments).counted ≤ units_passed latest
counted_within time [] latest all within = within
counted_within time (moment ∷ moments) latest all within =
    let head = All-head (λ m. m ≤ latest) moment moments all in
    counted_within (time_after time moment) moments latest (All-tail (λ m. m ≤ latest) moment moments all) (omega (arith, within, head))

pub after_one_more : (time : LineTime) (moments : List ℕ) (moment : ℕ) → time_after_all time (moments ++ moment ∷ []) ≡ time_after (time_after_all time moments) moment
after_one_more time [] moment = refl
after_one_more time (first ∷ moments) moment = after_one_more (time_after time first) moments moment

counted_last : (time : LineTime) (moments : List ℕ) (moment : ℕ)
    → (time_after_all time (moments ++ moment ∷ [])).counted ≡ (time_after_all time moments).counted + (units_passed moment - (time_after_all time moments).counted)
counted_last time moments moment = ap (λ (after : LineTime). after.counted) (after_one_more time moments moment)

-- one tick has no more units at a later moment than at first
pub most_stays : (time : LineTime) (moments : List ℕ) → (time_after_all time moments).most ≡ time.most
most_stays time [] = refl
most_stays time (moment ∷ moments) = most_stays (time_after time moment) moments

pub none_lost : (tick : ℕ) (moments : List ℕ) (moment : ℕ) → All (λ earlier. earlier ≤ moment) moments
    → units_in_all (advances_at_each (first_time tick) (moments ++ moment ∷ [])) + cut_off_in_all (advances_at_each (first_time tick) (moments ++ moment ∷ [])) ≡ units_passed moment
none_lost tick moments moment all =
    let start = first_time tick in
    omega (arith, all_counted start (moments ++ moment ∷ []), counted_last start moments moment, counted_within start moments moment all (omega arith))

pub none_twice : (tick : ℕ) (moments : List ℕ) (latest : ℕ) → All (λ moment. moment ≤ latest) moments
    → units_in_all (advances_at_each (first_time tick) moments) + cut_off_in_all (advances_at_each (first_time tick) moments) ≤ units_passed latest
none_twice tick moments latest all =
    let start = first_time tick in
    omega (arith, all_counted start moments, counted_within start moments latest all (omega arith))

pub none_too_long : (tick : ℕ) (moments : List ℕ) (moment : ℕ) → 10 * (advance_at (time_after_all (first_time tick) moments) moment).units ≤ 2 * tick
none_too_long tick moments moment = omega (arith, most_stays (first_time tick) moments)

pub only_late : (tick : ℕ) (moments : List ℕ) (before moment : ℕ)
    → 0 < (advance_at (time_after_all (first_time tick) (moments ++ before ∷ [])) moment).cut_off → before + 2 * tick < moment + 10
only_late tick moments before moment some =
    let start = first_time tick in
    omega (arith, some, most_stays start (moments ++ before ∷ []), counted_last start moments before)
