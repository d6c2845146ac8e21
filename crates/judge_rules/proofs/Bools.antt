-- A test that is true, or false, leaves the other one, or nothing.
use Rattle.std.proofs.Common.{◌≡◌, Bool, true, false, refl}
use Rattle.std.specs.Prelude.{◌&&◌}

pub and_true : (b : Bool) → (b && true) ≡ b
and_true true = refl
and_true false = refl

pub and_false : (b : Bool) → (b && false) ≡ false
and_false true = refl
and_false false = refl

pub second : (a b v : Bool) → a ≡ true → (a && b) ≡ v → b ≡ v
second true b v is both = both
second false b v is both = absurd cc
