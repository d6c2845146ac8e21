-- Inputs that devices give slaves, one slave after another.
use Rattle.std.proofs.Common.{◌≡◌, ℕ, ◌+◌, List, [], ◌∷◌, refl, subst, arith, length}
use Rattle.std.proofs.lemmas.List.{nil_from_length}
use Rattle.dp_shared.specs.declared.line_view.PassView.{PassView}
use Rattle.rack_devices.specs.declared.driven_slave.DrivenSlave.{DrivenSlave}
use Rattle.dp_sessions.specs.Operators.{AreFed, IsFed}

-- the slaves that are left complete the whole
abbrev pub GoesOn : List DrivenSlave → List DrivenSlave → PassView → PassView → ℕ → Type 0
GoesOn driven left start now recorded = (after : PassView) (rest : ℕ) → AreFed left now after rest → AreFed driven start after (recorded + rest)

pub fed_start : (driven : List DrivenSlave) (start : PassView) → GoesOn driven driven start start 0
fed_start driven start after rest fed =
    let sum : rest ≡ 0 + rest = omega arith in
    subst (AreFed driven start after) sum fed

fed_next : (driven others : List DrivenSlave) (one : DrivenSlave) (start now next : PassView) (recorded first : ℕ)
    → GoesOn driven (one ∷ others) start now recorded → IsFed one now next first → GoesOn driven others start next (recorded + first)
fed_next driven others one start now next recorded first on fed after rest later =
    let sum : recorded + (first + rest) ≡ recorded + first + rest = omega arith in
    subst (AreFed driven start after) sum (on after (first + rest) (next, first, rest, fed, later, refl))

pub fed_more : (driven left others : List DrivenSlave) (one : DrivenSlave) (start now next : PassView) (recorded first : ℕ)
    → left ≡ one ∷ others → GoesOn driven left start now recorded → IsFed one now next first → GoesOn driven others start next (recorded + first)
fed_more driven left others one start now next recorded first is on = fed_next driven others one start now next recorded first (subst (λ xs. GoesOn driven xs start now recorded) is on)

fed_last : (driven : List DrivenSlave) (start now : PassView) (recorded : ℕ) → GoesOn driven [] start now recorded → AreFed driven start now recorded
fed_last driven start now recorded on =
    let sum : recorded + 0 ≡ recorded = omega arith in
    subst (AreFed driven start now) sum (on now 0 (refl, refl))

pub fed_all : (driven left : List DrivenSlave) (start now : PassView) (recorded : ℕ) → length left ≡ 0 → GoesOn driven left start now recorded → AreFed driven start now recorded
fed_all driven left start now recorded none on = fed_last driven start now recorded (subst (λ xs. GoesOn driven xs start now recorded) (nil_from_length left none) on)
