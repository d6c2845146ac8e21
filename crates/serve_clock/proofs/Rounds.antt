-- The moments at which an action is due.
use Rattle.std.proofs.Common.{◌≡◌, ℕ, ◌+◌, ◌-◌, ◌*◌, ◌/◌, ◌%◌, ◌<◌, ◌≤◌, Bool, true, false, nat_lt, if◌then◌else◌, refl, sym, ap, ◌∙◌, inl, inr, ◌⊎◌, arith}
use Rattle.std.proofs.lemmas.Bool.{cases_lt, lt-ltb}
use Rattle.std.proofs.lemmas.Nat.{div-mul-add, mod_below, div-add-mod'}
use Rattle.std.proofs.Math.Nat.{div-lt_iff_lt-mul, div-mul-le_self}
use Rattle.serve_clock.specs.declared.beat.Beat.{Beat}
use Rattle.serve_clock.specs.Moments.{is_due, wait_at}

-- before the next multiple nothing is due again
same_round : (every moment more : ℕ) → 0 < every → more < every - moment % every → (moment + more) / every ≡ moment / every
same_round every moment more some less =
    let q = moment / every in
    let r = moment % every in
    let whole : moment ≡ q * every + r = sym (div-add-mod' moment every) in
    let parts : moment + more ≡ q * every + (r + more) = omega (arith, whole) in
    ap (λ n. n / every) parts ∙ div-mul-add q every (r + more) (omega (arith, less))

next_round : (every moment : ℕ) → 0 < every → (moment + (every - moment % every)) / every ≡ moment / every + 1
next_round every moment some =
    let q = moment / every in
    let r = moment % every in
    let below : r < every = mod_below moment every some in
    let whole : moment ≡ q * every + r = sym (div-add-mod' moment every) in
    let more : (q + 1) * every ≡ q * every + every = omega arith in
    let parts : moment + (every - r) ≡ (q + 1) * every + 0 = omega (arith, whole, below, more) in
    ap (λ n. n / every) parts ∙ div-mul-add (q + 1) every 0 some

-- at least as many multiples have passed by a later moment
rounds_up_by : (every last moment : ℕ) → 0 < every → last ≤ moment → (moment / every < last / every) ⊎ (last / every ≤ moment / every) → last / every ≤ moment / every
rounds_up_by every last moment some order (inr up) = up
rounds_up_by every last moment some order (inl down) =
    absurd (omega (arith, order, (div-lt_iff_lt-mul {k = every} {x = moment} {y = last / every} some).0 down, div-mul-le_self last every))

pub rounds_up : (every last moment : ℕ) → 0 < every → last ≤ moment → last / every ≤ moment / every
rounds_up every last moment some order = rounds_up_by every last moment some order (cases_lt (moment / every) (last / every))

not_due_by : (beat : Beat) (moment milliseconds : ℕ) (due : Bool) → is_due beat moment ≡ due → 0 < beat.every → milliseconds < (if due then 0 else beat.every - moment % beat.every)
    → is_due beat (moment + milliseconds) ≡ false
not_due_by beat moment milliseconds true is some less = absurd (omega (arith, less))
not_due_by beat moment milliseconds false is some less =
    ap (λ rounds. nat_lt (beat.last / beat.every) rounds) (same_round beat.every moment milliseconds some less) ∙ is

pub not_due_before : (beat : Beat) (moment milliseconds : ℕ) → 0 < beat.every → milliseconds < wait_at beat moment → is_due beat (moment + milliseconds) ≡ false
not_due_before beat moment milliseconds some less = not_due_by beat moment milliseconds (is_due beat moment) refl some less

due_by : (beat : Beat) (moment : ℕ) (due : Bool) → is_due beat moment ≡ due → 0 < beat.every → beat.last ≤ moment
    → is_due beat (moment + (if due then 0 else beat.every - moment % beat.every)) ≡ true
due_by beat moment true is some order = ap (λ m. is_due beat m) (omega arith) ∙ is
due_by beat moment false is some order =
    let up = rounds_up beat.every beat.last moment some order in
    ap (λ rounds. nat_lt (beat.last / beat.every) rounds) (next_round beat.every moment some) ∙ lt-ltb _ _ (omega (arith, up))

pub due_behind : (beat : Beat) (moment : ℕ) → 0 < beat.every → beat.last ≤ moment → is_due beat (moment + wait_at beat moment) ≡ true
due_behind beat moment some order = due_by beat moment (is_due beat moment) refl some order
