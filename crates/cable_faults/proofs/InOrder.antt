-- The moments at which telegrams go out.
use Rattle.std.proofs.Common.{◌≡◌, ℕ, ◌-◌, ◌^◌, ◌≤◌, max, List, [], ◌∷◌, refl, ap, ◌∙◌, arith}
use Rattle.cable_faults.specs.declared.pace.Pace.{Pace}
use Rattle.cable_faults.specs.Paces.{AreAtOnce, Coming, IsAscendingFrom, due_at, dues, first_pace, moment_after, moments_of, pace_after}

not_before : (pace : Pace) (moment wait : ℕ) → pace.last ≤ due_at pace moment wait
not_before pace moment wait = omega arith

pub ascending : (pace : Pace) (comings : List Coming) → IsAscendingFrom pace.last (dues pace comings)
ascending pace [] = tt
ascending pace (coming ∷ others) = (not_before pace coming.moment coming.wait, ascending (pace_after pace coming.moment coming.wait) others)

pub waits : (pace : Pace) (moment wait : ℕ) → moment_after moment wait ≤ due_at pace moment wait
waits pace moment wait = omega arith

at_its_moment : (last moment wait : ℕ) → last ≤ moment → moment ≤ 2 ^ 64 - 1 → wait ≤ 0 → max last (moment_after moment wait) ≡ moment
at_its_moment last moment wait order fits now = omega arith

at_once_from : (last : ℕ) (comings : List Coming) → AreAtOnce last comings → dues (record { last = last }) comings ≡ moments_of comings
at_once_from last [] all = refl
at_once_from last (coming ∷ others) all =
    let e = at_its_moment last coming.moment coming.wait all.0 all.1 all.2 in
    let rest = at_once_from coming.moment others all.3 in
    let P : ℕ → List ℕ = λ due. due ∷ dues (record { last = due }) others in
    ap P e ∙ ap (λ (more : List ℕ). coming.moment ∷ more) rest

pub at_once : (comings : List Coming) → AreAtOnce 0 comings → dues first_pace comings ≡ moments_of comings
at_once comings all = at_once_from 0 comings all
