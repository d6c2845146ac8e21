-- detail
-- When telegrams of one direction go out: moments are microseconds (own).
use Rattle.std.specs.Prelude.{ℕ, ◌+◌, ◌-◌, ◌*◌, ◌^◌, ◌≤◌, min, max, List, [], ◌∷◌}
use Rattle.cable_faults.specs.declared.pace.Pace.{Pace}

abbrev pub first_pace : Pace
first_pace = record { last = 0 }

-- the moment that comes a number of milliseconds after another, at the latest the last moment that there is
abbrev pub moment_after : ℕ → ℕ → ℕ
moment_after moment wait = min (moment + min (wait * 1000) (2 ^ 64 - 1)) (2 ^ 64 - 1)

abbrev pub due_at : Pace → ℕ → ℕ → ℕ
due_at pace moment wait = max pace.last (moment_after moment wait)

abbrev pub pace_after : Pace → ℕ → ℕ → Pace
pace_after pace moment wait = record { last = due_at pace moment wait }

-- a telegram: when it came, and the milliseconds for which it waits
pub record Coming : Type 0 where
  pub moment : ℕ
  pub wait : ℕ

-- the moments at which telegrams go out, one after another
abbrev pub dues : Pace → List Coming → List ℕ
dues pace [] = []
dues pace (coming ∷ others) = due_at pace coming.moment coming.wait ∷ dues (pace_after pace coming.moment coming.wait) others

-- each number is at least the one before it, and the first at least this one
abbrev pub IsAscendingFrom : ℕ → List ℕ → Type 0
IsAscendingFrom least [] = Unit {0}
IsAscendingFrom least (number ∷ numbers) = (least ≤ number) × IsAscendingFrom number numbers

-- telegrams that came in this order, from this moment on, and don't wait
abbrev pub AreAtOnce : ℕ → List Coming → Type 0
AreAtOnce least [] = Unit {0}
AreAtOnce least (coming ∷ others) = (least ≤ coming.moment) × (coming.moment ≤ 2 ^ 64 - 1) × (coming.wait ≤ 0) × AreAtOnce coming.moment others

abbrev pub moments_of : List Coming → List ℕ
moments_of [] = []
moments_of (coming ∷ others) = coming.moment ∷ moments_of others
