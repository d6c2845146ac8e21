-- How often an action is done over lists of moments.
use Rattle.std.proofs.Common.{◌≡◌, ℕ, ◌+◌, ◌/◌, ◌<◌, ◌≤◌, Bool, true, false, if◌then◌else◌, List, [], ◌∷◌, All, refl, arith}
use Rattle.std.proofs.lemmas.Bool.{ltb-true}
use Rattle.std.proofs.lemmas.List.Elements.{All-head, All-tail}
use Rattle.serve_clock.specs.declared.beat.Beat.{Beat}
use Rattle.serve_clock.specs.Moments.{beat_after, first_beat, is_due, times_due}
use Rattle.serve_clock.proofs.Rounds.{rounds_up}

abbrev after_all : Beat → List ℕ → Beat
after_all beat [] = beat
after_all beat (moment ∷ moments) = after_all (beat_after beat moment) moments

-- the multiples that had passed when it was done last
abbrev rounds_of : Beat → ℕ
rounds_of beat = beat.last / beat.every

due_by : (beat : Beat) (moment : ℕ) (due : Bool) → is_due beat moment ≡ due
    → (if due then 1 else 0) + rounds_of beat ≤ rounds_of (if due then record beat { last = moment } else beat)
due_by beat moment true is = omega (arith, ltb-true _ _ is)
due_by beat moment false is = omega arith

-- each time is for at least one more multiple
taken : (beat : Beat) (moments : List ℕ) → times_due beat moments + rounds_of beat ≤ rounds_of (after_all beat moments)
taken beat [] = omega arith
taken beat (moment ∷ moments) = omega (arith, due_by beat moment (is_due beat moment) refl, taken (beat_after beat moment) moments)

-- due at each multiple of `every` milliseconds, and last done by this moment
abbrev IsBy : ℕ → ℕ → Beat → Type 0
IsBy every latest beat = (beat.every ≡ every) × (beat.last ≤ latest)

by_due : (every latest moment : ℕ) (beat : Beat) (due : Bool) → moment ≤ latest → IsBy every latest beat → IsBy every latest (if due then record beat { last = moment } else beat)
by_due every latest moment beat true before is = (is.0, before)
by_due every latest moment beat false before is = is

by_all : (every latest : ℕ) (beat : Beat) (moments : List ℕ) → All (λ moment. moment ≤ latest) moments → IsBy every latest beat → IsBy every latest (after_all beat moments)
by_all every latest beat [] all is = is
by_all every latest beat (moment ∷ moments) all is =
    by_all every latest (beat_after beat moment) moments (All-tail (λ m. m ≤ latest) moment moments all)
    (by_due every latest moment beat (is_due beat moment) (All-head (λ m. m ≤ latest) moment moments all) is)

few : (every latest : ℕ) (beat : Beat) → 0 < every → IsBy every latest beat → rounds_of beat ≤ latest / every
few every latest beat some is = rw is.0 (rounds_up every beat.last latest some is.1)

pub none_twice : (every : ℕ) (moments : List ℕ) (latest : ℕ) → 0 < every → All (λ moment. moment ≤ latest) moments
    → times_due (first_beat every) moments ≤ latest / every
none_twice every moments latest some all =
    let start = first_beat every in
    omega (arith, taken start moments, few every latest (after_all start moments) some (by_all every latest start moments all (refl, omega arith)))
