-- The two factors of the watchdog time.
use Rattle.std.proofs.Common.{◌≡◌, ℕ, zero, suc, ◌*◌, ◌<◌, ◌≤◌, Bool, true, false, Some, None, IfSome, if◌then◌else◌, refl, arith}
use Rattle.std.proofs.Math.Nat.{mul-le-mul}

-- a product of factors above 0 is one
product_least : (m n : ℕ) → 0 < m → 0 < n → 1 ≤ m * n
product_least (suc m) (suc n) a b = grind arith
product_least zero n a b = absurd (omega arith)
product_least (suc m) zero a b = absurd (omega arith)

-- factors of one octet each, neither of them 0, give 1 to 65,025 units
pub time_between : (on : Bool) (m n : ℕ) → m ≤ 255 → n ≤ 255 → (on ≡ true → (0 < m) × (0 < n))
    → IfSome (if on then Some (m * n) else None) (λ time. (1 ≤ time) × (time ≤ 65025))
time_between false m n a b above = tt
time_between true m n a b above = (product_least m n (above refl).0 (above refl).1, mul-le-mul a b)
