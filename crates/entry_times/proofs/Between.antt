-- What lies between two rows.
use Rattle.std.proofs.Common.{◌≡◌, ℕ, ◌+◌, ◌-◌, ◌*◌, ◌/◌, ◌<◌, ◌≤◌, arith, suc, zero}
use Rattle.std.proofs.Math.Nat.{div-le_of_le-mul, div-mul-le_self, mul-le-mul_left}
use Rattle.std.proofs.lemmas.Nat.{le-div}

-- a part of a number is not above it
pub part_le : (number part whole : ℕ) → part ≤ whole → number * part / whole ≤ number
part_le number part whole within =
    div-le_of_le-mul whole (subst_mul (mul-le-mul_left number within))
  where
    subst_mul : number * part ≤ number * whole → number * part ≤ whole * number
    subst_mul le = grind (arith, le)

-- a larger number has no smaller quotient
pub div_grows : (m n k : ℕ) → 0 < k → m ≤ n → m / k ≤ n / k
div_grows m n k some le = le-div (m / k) n k some (omega (arith, le, div-mul-le_self m k))
