-- The watchdog time of octets is a product of two factors.
use Rattle.std.proofs.Common.{◌≡◌, ℕ, zero, suc, ◌*◌, ◌/◌, ◌%◌, ◌<◌, ◌≤◌, Bool, true, false, eqb, leb, refl, sym, subst, arith}
use Rattle.std.specs.Prelude.{◌||◌}
use Rattle.std.proofs.lemmas.Bool.{and_from, eq-eqb, eqb-true, le-leb}
use Rattle.std.proofs.Math.Nat.{mul-mod_right, mul-div_cancel_left}
use Rattle.dp_slave.specs.Reachable.{has_factor, is_factor, is_watchdog_time}

or_first : (a b : Bool) → a ≡ true → (a || b) ≡ true
or_first true b e = refl
or_first false b e = absurd cc

or_second : (a b : Bool) → b ≡ true → (a || b) ≡ true
or_second true b e = refl
or_second false b e = e

-- a factor among the first ones is found
found_by : (units factor most : ℕ) (b : Bool) → eqb factor (suc most) ≡ b → factor ≤ suc most → is_factor units factor ≡ true → (factor ≤ most → has_factor units most ≡ true)
    → (is_factor units (suc most) || has_factor units most) ≡ true
found_by units factor most true same within is others =
    or_first (is_factor units (suc most)) (has_factor units most) (subst (λ (n : ℕ). is_factor units n ≡ true) (eqb-true factor (suc most) same) is)
found_by units factor most false apart within is others =
    or_second (is_factor units (suc most)) (has_factor units most) (others (below factor most apart within))
  where
    below : (factor most : ℕ) → eqb factor (suc most) ≡ false → factor ≤ suc most → factor ≤ most
    below factor most apart within = grind arith

found : (units factor most : ℕ) → 1 ≤ factor → factor ≤ most → is_factor units factor ≡ true → has_factor units most ≡ true
unfolding has_factor
found units factor zero least within is = absurd (omega (arith, least, within))
found units factor (suc most) least within is =
    found_by units factor most (eqb factor (suc most)) refl within is (λ below. found units factor most least below is)

factor_of : (first second : ℕ) → 0 < first → second < 256 → is_factor (first * second) first ≡ true
factor_of first second some few =
    and_from (eqb (first * second % first) 0) (leb (first * second / first) 255)
    (eq-eqb (first * second % first) 0 (mul-mod_right first second))
    (le-leb (first * second / first) 255 (subst (λ (n : ℕ). n ≤ 255) (sym (mul-div_cancel_left second some)) (omega (arith, few))))

pub product : (first second : ℕ) → 0 < first → 0 < second → first < 256 → second < 256 → is_watchdog_time (first * second) ≡ true
product first second some more few less =
    and_from (leb 1 (first * second)) (has_factor (first * second) 255)
    (le-leb 1 (first * second) (one first second some more))
    (found (first * second) first 255 some (omega (arith, few)) (factor_of first second some less))
  where
    one : (first second : ℕ) → 0 < first → 0 < second → 1 ≤ first * second
    one first second some more = grind arith
