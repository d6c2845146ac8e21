-- The rows around a place.
use Rattle.std.proofs.Common.{◌≡◌, ℕ, suc, zero, ◌<◌, ◌≤◌, Bool, true, false, ltb, List, [], ◌∷◌, ◌++◌, ◌-◌, cond, length, get_or, refl, subst, sym, ap, arith, ◌∙◌}
use Rattle.std.specs.Prelude.{Option, Some, None, IfSome, nat_lt, slice_get}
use Rattle.std.proofs.lemmas.List.Sorted.{IsNonDecreasingBy-push}
use Rattle.std.proofs.lemmas.Option.{slice_get-get_or}
use Rattle.entry_times.specs.PlaceTimes.{AreInOrder, IsAround, is_above, last_of, row_before, row_from, rows_before}
use Rattle.entry_times.specs.declared.time_row.TimeRow.{TimeRow}

-- the number of rows before a place, by what each of them passes
pub count_from_point : (place : ℕ) (rows : List TimeRow) (count : ℕ) → count ≤ length rows
    → ((k : ℕ) (d : TimeRow) → k < count → (get_or rows k d).place < place)
    → ((k : ℕ) (d : TimeRow) → count ≤ k → k < length rows → place ≤ (get_or rows k d).place)
    → count ≡ rows_before place rows
count_from_point place [] count bound below above = omega (arith, bound)
count_from_point place (row ∷ rows) zero bound below above = rw (nat_lt_no row.place place (above 0 row (omega arith) (omega arith))) refl
  where
    nat_lt_no : (m n : ℕ) → n ≤ m → nat_lt m n ≡ false
    nat_lt_no m n le = grind (arith, le)
count_from_point place (row ∷ rows) (suc count) bound below above =
    rw (nat_lt_yes row.place place (below 0 row (omega arith)))
    (ap suc (count_from_point place rows count (omega (arith, bound)) (λ k d within. below (suc k) d (omega (arith, within))) (λ k d from within. above (suc k) d (omega (arith, from)) (omega (arith, within)))))
  where
    nat_lt_yes : (m n : ℕ) → m < n → nat_lt m n ≡ true
    nat_lt_yes m n lt = grind (arith, lt)

from_more : (b : Bool) (place : ℕ) (row : TimeRow) (rows : List TimeRow) (n : ℕ) → nat_lt row.place place ≡ b → IfSome (slice_get rows n) (λ from. place ≤ from.place)
    → IfSome (slice_get (row ∷ rows) (cond b (suc n) 0)) (λ from. place ≤ from.place)
from_more true place row rows n is more = more
from_more false place row rows n is more = nat_lt-no row.place place is
  where
    nat_lt-no : (m n : ℕ) → nat_lt m n ≡ false → n ≤ m
    nat_lt-no m n e = grind (arith, e)

is_from : (place : ℕ) (rows : List TimeRow) → IfSome (row_from rows place) (λ from. place ≤ from.place)
is_from place [] = tt
is_from place (row ∷ rows) = from_more (nat_lt row.place place) place row rows (rows_before place rows) refl (is_from place rows)

before_more : (b : Bool) (place : ℕ) (row : TimeRow) (rows : List TimeRow) (n : ℕ) → nat_lt row.place place ≡ b → IfSome (last_of rows n) (λ before. before.place < place)
    → IfSome (last_of (row ∷ rows) (cond b (suc n) 0)) (λ before. before.place < place)
before_more true place row rows zero is more = nat_lt-yes row.place place is
  where
    nat_lt-yes : (m n : ℕ) → nat_lt m n ≡ true → m < n
    nat_lt-yes m n e = grind (arith, e)
before_more true place row rows (suc n) is more = more
before_more false place row rows n is more = tt

is_before : (place : ℕ) (rows : List TimeRow) → IfSome (row_before rows place) (λ before. before.place < place)
is_before place [] = tt
is_before place (row ∷ rows) = before_more (nat_lt row.place place) place row rows (rows_before place rows) refl (is_before place rows)

pub are_around : (place : ℕ) (rows : List TimeRow) → IsAround (row_before rows place) (row_from rows place) place
are_around place rows = (is_before place rows, is_from place rows)

-- ---- one more row

last_below : (rows : List TimeRow) (place : ℕ) (d : TimeRow) → 0 < length rows → is_above (slice_get rows (length rows - 1)) place ≡ true → (get_or rows (length rows - 1) d).place ≤ place
last_below rows place d some above =
    nat_lt-le (get_or rows (length rows - 1) d).place place (subst (λ last. is_above last place ≡ true) (slice_get-get_or rows (length rows - 1) d (omega (arith, some))) above)
  where
    nat_lt-le : (m n : ℕ) → nat_lt m n ≡ true → m ≤ n
    nat_lt-le m n e = grind (arith, e)

either : (b : Bool) (rows after : List TimeRow) (row : TimeRow) → AreInOrder rows → AreInOrder (rows ++ row ∷ []) → after ≡ cond b (rows ++ row ∷ []) rows → AreInOrder after
either true rows after row order more is = subst AreInOrder (sym is) more
either false rows after row order more is = subst AreInOrder (sym is) order

pub more_in_order : (b : Bool) (rows after : List TimeRow) (row : TimeRow) → AreInOrder rows → is_above (slice_get rows (length rows - 1)) row.place ≡ true → after ≡ cond b (rows ++ row ∷ []) rows → AreInOrder after
more_in_order b rows after row order above is =
    either b rows after row order (IsNonDecreasingBy-push (λ (r : TimeRow). r.place) rows row order (λ d some. last_below rows row.place d some above)) is
