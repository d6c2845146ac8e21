-- A later place has no earlier time.
use Rattle.std.proofs.Common.{◌≡◌, ℕ, suc, zero, ◌+◌, ◌-◌, ◌*◌, ◌/◌, ◌<◌, ◌≤◌, Bool, true, false, cond, List, [], ◌∷◌, length, get_or, refl, sym, ap, subst, arith, ◌∙◌, ◌⊎◌, inl, inr}
use Rattle.std.specs.Prelude.{Option, Some, None, IfSome, nat_lt, nat_le, ◌==◌, slice_get}
use Rattle.std.proofs.Math.Nat.{mul-le-mul_left}
use Rattle.std.proofs.lemmas.Option.{get_or_from_slice_get, slice_get-get_or, slice_get_within}
use Rattle.entry_times.specs.declared.time_row.TimeRow.{TimeRow}
use Rattle.entry_times.specs.declared.entry_time.EntryTime.{EntryTime}
use Rattle.entry_times.specs.declared.entry_time.EntryTime.TheVariants.{Recorded, Between}
use Rattle.entry_times.specs.PlaceTimes.{AreInOrder, DoNotGoBack, IsAround, between, interpolated, last_of, row_before, row_from, rows_before, time_by, time_milliseconds, time_of, unless_of}
use Rattle.entry_times.proofs.Around.{are_around}
use Rattle.entry_times.proofs.Between.{div_grows, part_le}

-- ---- between two rows

pub not_above : (before after : TimeRow) (place : ℕ) → before.milliseconds ≤ after.milliseconds → before.place < place → place < after.place → interpolated before after place ≤ after.milliseconds
unfolding interpolated
not_above before after place order above below =
    let part = part_le (after.milliseconds - before.milliseconds) (place - before.place) (after.place - before.place) (omega (arith, above, below)) in omega (arith, order, part)

pub not_below : (before after : TimeRow) (place : ℕ) → before.milliseconds ≤ interpolated before after place
unfolding interpolated
not_below before after place = omega arith

pub grows : (before after : TimeRow) (place later : ℕ) → before.place < after.place → place ≤ later → interpolated before after place ≤ interpolated before after later
unfolding interpolated
grows before after place later between order =
    let passed = after.milliseconds - before.milliseconds in
    let more = div_grows (passed * (place - before.place)) (passed * (later - before.place)) (after.place - before.place) (omega (arith, between)) (mul-le-mul_left passed (omega (arith, order))) in
    omega (arith, more)

-- ---- the forms of a time

-- a time is that of the row at its place, or it lies between the row behind it and the one before it
data IsFound (before from : Option TimeRow) (place : ℕ) (t : EntryTime) : Type 0 where
  own : (row : TimeRow) → from ≡ Some row → row.place ≡ place → t ≡ Recorded row.milliseconds → IsFound before from place t
  among : (first row : TimeRow) → before ≡ Some first → from ≡ Some row → first.milliseconds ≤ row.milliseconds → place < row.place → t ≡ Between (interpolated first row place) → IsFound before from place t

some_time : {t u : EntryTime} → Some t ≡ Some u → t ≡ u
some_time e = cc

some_row : {r s : TimeRow} → Some r ≡ Some s → r ≡ s
some_row e = cc

two_by : (b : Bool) (first row : TimeRow) (place : ℕ) (t : EntryTime) → nat_le first.milliseconds row.milliseconds ≡ b → place < row.place → cond b (Some (Between (interpolated first row place))) None ≡ Some t → IsFound (Some first) (Some row) place t
two_by true first row place t order below e = among first row refl refl (grind (arith, order)) below (sym (some_time e))
two_by false first row place t order below e = absurd cc

own_by : (b : Bool) (before : Option TimeRow) (row : TimeRow) (place : ℕ) (t : EntryTime) (otherwise : Option EntryTime) → (row.place == place) ≡ b → place ≤ row.place → cond b (Some (Recorded row.milliseconds)) otherwise ≡ Some t
    → (place < row.place → otherwise ≡ Some t → IsFound before (Some row) place t) → IsFound before (Some row) place t
own_by true before row place t otherwise is around e others = own row refl (grind (arith, is)) (sym (some_time e))
own_by false before row place t otherwise is around e others = others (grind (arith, is, around)) e

found_by : (before from : Option TimeRow) (place : ℕ) (t : EntryTime) → IsAround before from place → time_by before from place ≡ Some t → IsFound before from place t
found_by None None place t around e = absurd cc
found_by (Some first) None place t around e = absurd cc
found_by None (Some row) place t around e = own_by (row.place == place) None row place t None refl around.1 e (λ below none. absurd cc)
found_by (Some first) (Some row) place t around e =
    own_by (row.place == place) (Some first) row place t (between first row place) refl around.1 e (λ below is. two_by (nat_le first.milliseconds row.milliseconds) first row place t refl below is)

-- a time is not above that of the row behind it
record HasAbove (from : Option TimeRow) (t : EntryTime) : Type 0 where
  row : TimeRow
  is : from ≡ Some row
  above : time_milliseconds t ≤ row.milliseconds

is_above : (before from : Option TimeRow) (place : ℕ) (t : EntryTime) → IsAround before from place → IsFound before from place t → HasAbove from t
is_above before from place t around (own row is same time) = record { row = row; is = is; above = subst (λ u. time_milliseconds u ≤ row.milliseconds) (sym time) (omega arith) }
is_above before from place t around (among first row is_first is order below time) = record {
  row = row;
  is = is;
  above = subst (λ u. time_milliseconds u ≤ row.milliseconds) (sym time) (not_above first row place order (subst (λ b. IfSome b (λ r. r.place < place)) is_first around.0) below);
}

-- and not below that of the row before it
is_below : (before from : Option TimeRow) (place : ℕ) (t : EntryTime) (first : TimeRow) → before ≡ Some first → ((row : TimeRow) → from ≡ Some row → first.milliseconds ≤ row.milliseconds) → IsFound before from place t
    → first.milliseconds ≤ time_milliseconds t
is_below before from place t first is order (own row is_row same time) = subst (λ u. first.milliseconds ≤ time_milliseconds u) (sym time) (order row is_row)
is_below before from place t first is order (among other row is_other is_row lower below time) =
    let one : other ≡ first = some_row (sym is_other ∙ is) in
    subst (λ u. first.milliseconds ≤ time_milliseconds u) (sym time) (subst (λ (r : TimeRow). r.milliseconds ≤ interpolated other row place) one (not_below other row place))

-- between the same rows
same_rows : (before from : Option TimeRow) (place later : ℕ) (t u : EntryTime) → place ≤ later → IsAround before from place → IsFound before from place t → IsFound before from later u → time_milliseconds t ≤ time_milliseconds u
same_rows before from place later t u order around (own row is same time) (own other is_other other_same other_time) =
    let one : row ≡ other = some_row (sym is ∙ is_other) in
    rw (time, other_time, one) (omega arith)
same_rows before from place later t u order around (own row is same time) (among first other is_first is_other lower below other_time) =
    let one : row ≡ other = some_row (sym is ∙ is_other) in
    let places : row.place ≡ other.place = ap (λ (r : TimeRow). r.place) one in absurd (omega (arith, order, same, places, below))
same_rows before from place later t u order around (among first row is_first is lower below time) (own other is_other same other_time) =
    let one : row ≡ other = some_row (sym is ∙ is_other) in
    let most = not_above first row place lower (subst (λ b. IfSome b (λ r. r.place < place)) is_first around.0) below in
    rw (time, other_time, sym one) most
same_rows before from place later t u order around (among first row is_first is lower below time) (among second other is_second is_other more under other_time) =
    let one : row ≡ other = some_row (sym is ∙ is_other) in
    let two : first ≡ second = some_row (sym is_first ∙ is_second) in
    let after : first.place < place = subst (λ b. IfSome b (λ r. r.place < place)) is_first around.0 in
    rw (time, other_time, sym one, sym two) (grows first row place later (omega (arith, after, below)) order)

-- ---- in a list of rows

count_by : (b c : Bool) (m n p q r : ℕ) → nat_lt r p ≡ b → nat_lt r q ≡ c → p ≤ q → m ≤ n → cond b (suc m) 0 ≤ cond c (suc n) 0
count_by true true m n p q r one other order le = omega (arith, le)
count_by true false m n p q r one other order le = absurd (grind (arith, one, other, order))
count_by false c m n p q r one other order le = omega arith

counts_grow : (place later : ℕ) (rows : List TimeRow) → place ≤ later → rows_before place rows ≤ rows_before later rows
counts_grow place later [] order = omega arith
counts_grow place later (row ∷ rows) order =
    count_by (nat_lt row.place place) (nat_lt row.place later) (rows_before place rows) (rows_before later rows) place later row.place refl refl order (counts_grow place later rows order)

ordered_at : (rows : List TimeRow) (i j : ℕ) (one other : TimeRow) → DoNotGoBack rows → i ≤ j → slice_get rows i ≡ Some one → slice_get rows j ≡ Some other → one.milliseconds ≤ other.milliseconds
ordered_at rows i j one other rise order is_one is_other =
    let at_one = get_or_from_slice_get rows i one one is_one in
    let at_other = get_or_from_slice_get rows j other one is_other in
    let le = rise i j one order (slice_get_within rows j other is_other) in
    subst (λ (r : TimeRow). one.milliseconds ≤ r.milliseconds) at_other (subst (λ (r : TimeRow). r.milliseconds ≤ (get_or rows j one).milliseconds) at_one le)

-- between different rows
apart : (rows : List TimeRow) (i j : ℕ) (place later : ℕ) (t u : EntryTime) → DoNotGoBack rows → i < j → j ≤ length rows → IsAround (last_of rows i) (slice_get rows i) place
    → IsFound (last_of rows i) (slice_get rows i) place t → IsFound (last_of rows j) (slice_get rows j) later u → time_milliseconds t ≤ time_milliseconds u
apart rows i zero place later t u rise less within around first second = absurd (omega (arith, less))
apart rows i (suc k) place later t u rise less within around first second =
    let has = is_above (last_of rows i) (slice_get rows i) place t around first in
    let row = get_or rows k has.row in
    let is : slice_get rows k ≡ Some row = slice_get-get_or rows k has.row (omega (arith, within)) in
    let up = ordered_at rows i k has.row row rise (omega (arith, less)) has.is is in
    let low = is_below (slice_get rows k) (slice_get rows (suc k)) later u row is (λ other is_other. ordered_at rows k (suc k) row other rise (omega arith) is is_other) second in
    omega (arith, has.above, up, low)

counts_fit : (place : ℕ) (rows : List TimeRow) → rows_before place rows ≤ length rows
counts_fit place [] = omega arith
counts_fit place (row ∷ rows) = fits (nat_lt row.place place) (rows_before place rows) (length rows) (counts_fit place rows)
  where
    fits : (b : Bool) (m n : ℕ) → m ≤ n → cond b (suc m) 0 ≤ suc n
    fits true m n le = omega (arith, le)
    fits false m n le = omega arith

by_order : (rows : List TimeRow) (i j : ℕ) (place later : ℕ) (t u : EntryTime) → (i < j) ⊎ (i ≡ j) → DoNotGoBack rows → place ≤ later → j ≤ length rows → IsAround (last_of rows i) (slice_get rows i) place
    → IsFound (last_of rows i) (slice_get rows i) place t → IsFound (last_of rows j) (slice_get rows j) later u → time_milliseconds t ≤ time_milliseconds u
by_order rows i j place later t u (inl less) rise order within around first second = apart rows i j place later t u rise less within around first second
by_order rows i j place later t u (inr same) rise order within around first second =
    same_rows (last_of rows i) (slice_get rows i) place later t u order around first (subst (λ (n : ℕ). IsFound (last_of rows n) (slice_get rows n) later u) (sym same) second)

less_or_same : (i j : ℕ) → i ≤ j → (i < j) ⊎ (i ≡ j)
less_or_same zero zero le = inr refl
less_or_same zero (suc j) le = inl (omega arith)
less_or_same (suc i) zero le = absurd (omega (arith, le))
less_or_same (suc i) (suc j) le = next (less_or_same i j (omega (arith, le)))
  where
    next : (i < j) ⊎ (i ≡ j) → (suc i < suc j) ⊎ (suc i ≡ suc j)
    next (inl less) = inl (omega (arith, less))
    next (inr same) = inr (ap suc same)

pub later_is_not_earlier : (rows : List TimeRow) (place later : ℕ) (t u : EntryTime) → DoNotGoBack rows → place ≤ later → time_of rows place ≡ Some t → time_of rows later ≡ Some u → time_milliseconds t ≤ time_milliseconds u
later_is_not_earlier rows place later t u rise order first second =
    by_order rows (rows_before place rows) (rows_before later rows) place later t u (less_or_same _ _ (counts_grow place later rows order)) rise order (counts_fit later rows) (are_around place rows)
    (found_by (row_before rows place) (row_from rows place) place t (are_around place rows) first) (found_by (row_before rows later) (row_from rows later) later u (are_around later rows) second)
