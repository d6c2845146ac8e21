-- The first configuration with some octets.
use Rattle.std.proofs.Common.{◌≡◌, ◌≢◌, ℕ, zero, suc, ◌+◌, ◌<◌, ◌≤◌, Bool, true, false, cond, ◌&&◌, List, [], ◌∷◌, length, take, refl, sym, ap, ◌∙◌, Option, Some, None, Result, Ok, Err, arith, eqb}
use Rattle.std.specs.Prelude.{nat_lt, position, slice_get, IfSome}
use Rattle.std.specs.List.{position_from}
use Rattle.std.specs.Option.{option_map, option_and_then}
use Rattle.std.specs.Result.{OkIff, result_ok}
use Rattle.std.proofs.lemmas.Bool.{eqb-true, cond-true, cond-false, lt-ltb, le-ltb, ltb-true, ltb-false}
use Rattle.std.proofs.lemmas.Iterator.Adapters.{position_from-zero}
use Rattle.std.proofs.lemmas.List.{take_all, length-take}
use Rattle.std.proofs.lemmas.Option.{same_Some, slice_get_within}
use Rattle.dp_cfg.specs.Choosing.{same_octets, chosen, most_choices}

-- ---- the comparison decides

same_by : (x y : ℕ) (xs ys : List ℕ) (b : Bool) → eqb x y ≡ b → (b && same_octets xs ys) ≡ true → (same_octets xs ys ≡ true → xs ≡ ys) → x ∷ xs ≡ y ∷ ys
same_by x y xs ys true here both others =
    let first : x ≡ y = eqb-true x y here in
    let rest : xs ≡ ys = others both in
    cc
same_by x y xs ys false here both others = absurd cc

same_are_equal : (xs ys : List ℕ) → same_octets xs ys ≡ true → xs ≡ ys
same_are_equal [] [] e = refl
same_are_equal [] (y ∷ ys) e = absurd cc
same_are_equal (x ∷ xs) [] e = absurd cc
same_are_equal (x ∷ xs) (y ∷ ys) e = same_by x y xs ys (eqb x y) refl e (same_are_equal xs ys)

same_as_itself : (xs : List ℕ) → same_octets xs xs ≡ true
same_as_itself [] = refl
same_as_itself (x ∷ xs) = rw (same_as_itself xs) (grind arith)

same_from : (xs ys : List ℕ) → xs ≡ ys → same_octets xs ys ≡ true
same_from xs ys e = rw e (same_as_itself ys)

-- ---- the place that iteration finds

place_by : (n : ℕ) (b : Bool) (at : Option ℕ) (rest : Option ℕ) → rest ≡ option_map (λ k. (n + 1) + k) at
    → cond b (Some n) rest ≡ option_map (λ k. n + k) (cond b (Some 0) (option_map suc at))
place_by n true at rest e = let f : n ≡ n + 0 = omega arith in cc
place_by n false None rest e = e
place_by n false (Some k) rest e = let f : (n + 1) + k ≡ n + suc k = omega arith in cc

place_from : (n : ℕ) (configurations : List (List ℕ)) (octets : List ℕ)
    → position_from (λ configuration. same_octets configuration octets) n configurations ≡ option_map (λ k. n + k) (chosen configurations octets)
place_from n [] octets = refl
place_from n (first ∷ others) octets = place_by n (same_octets first octets) (chosen others octets) _ (place_from (n + 1) others octets)

as_it_is : (at : Option ℕ) → option_map (λ k. 0 + k) at ≡ at
as_it_is None = refl
as_it_is (Some k) = let f : 0 + k ≡ k = omega arith in cc

position_is_chosen : (configurations : List (List ℕ)) (octets : List ℕ)
    → position (λ configuration. same_octets configuration octets) configurations ≡ chosen configurations octets
position_is_chosen configurations octets =
    position_from-zero (λ configuration. same_octets configuration octets) configurations
    ∙ place_from 0 configurations octets ∙ as_it_is (chosen configurations octets)

-- ---- among the first ones only

-- a number below the most
abbrev below : ℕ → ℕ → Option ℕ
below most number = cond (nat_lt number most) (Some number) None

within_most : (most number : ℕ) → number < most → below most number ≡ Some number
within_most most number h = cond-true _ _ _ (lt-ltb number most h)

past_most : (most number : ℕ) → most ≤ number → below most number ≡ None
past_most most number h = cond-false _ _ _ (le-ltb number most h)

one_more_by : (most number : ℕ) (b : Bool) → nat_lt number most ≡ b → option_map suc (below most number) ≡ below (suc most) (suc number)
one_more_by most number true e =
    let h : number < most = ltb-true number most e in
    rw (within_most most number h, within_most (suc most) (suc number) (omega arith))
one_more_by most number false e =
    let h : most ≤ number = ltb-false number most e in
    rw (past_most most number h, past_most (suc most) (suc number) (omega arith))

one_more_below : (most number : ℕ) → option_map suc (below most number) ≡ below (suc most) (suc number)
one_more_below most number = one_more_by most number (nat_lt number most) refl

among_by : (most : ℕ) (b : Bool) (at : Option ℕ) (front : Option ℕ) → front ≡ option_and_then (below most) at
    → cond b (Some 0) (option_map suc front) ≡ option_and_then (below (suc most)) (cond b (Some 0) (option_map suc at))
among_by most true at front e = sym (within_most (suc most) 0 (omega arith))
among_by most false None front e = rw e
among_by most false (Some number) front e = rw e (one_more_below most number)

none_below_zero : (at : Option ℕ) → None ≡ option_and_then (below 0) at
none_below_zero None = refl
none_below_zero (Some number) = sym (past_most 0 number (omega arith))

chosen_among_first : (most : ℕ) (configurations : List (List ℕ)) (octets : List ℕ)
    → chosen (take most configurations) octets ≡ option_and_then (below most) (chosen configurations octets)
chosen_among_first zero configurations octets = none_below_zero (chosen configurations octets)
chosen_among_first (suc most) [] octets = refl
chosen_among_first (suc most) (first ∷ others) octets =
    among_by most (same_octets first octets) (chosen others octets) _ (chosen_among_first most others octets)

-- a place as a number of one octet
octet_of_place : {E : Type 0} (number : ℕ) (r : Result ℕ E) → OkIff r (number < most_choices) number → result_ok r ≡ below most_choices number
octet_of_place number (Ok n) h = rw h.1 (sym (within_most most_choices number h.0))
octet_of_place number (Err e) h = sym (past_most most_choices number (omega (arith, h)))

-- a place that was found, and its number
pub choice_is : {E : Type 0} (configurations : List (List ℕ)) (octets : List ℕ) (number : ℕ) (r : Result ℕ E)
    → Some number ≡ position (λ configuration. same_octets configuration octets) configurations
    → OkIff r (number < most_choices) number → result_ok r ≡ chosen (take most_choices configurations) octets
choice_is configurations octets number r at h =
    octet_of_place number r h
    ∙ ap (option_and_then (below most_choices)) (at ∙ position_is_chosen configurations octets)
    ∙ sym (chosen_among_first most_choices configurations octets)

pub no_choice : (configurations : List (List ℕ)) (octets : List ℕ)
    → None ≡ position (λ configuration. same_octets configuration octets) configurations
    → None ≡ chosen (take most_choices configurations) octets
no_choice configurations octets at =
    ap (option_and_then (below most_choices)) (at ∙ position_is_chosen configurations octets)
    ∙ sym (chosen_among_first most_choices configurations octets)

-- if the configurations are at most as many as there are numbers, none is left out
pub choice_among_all : (configurations : List (List ℕ)) (octets : List ℕ) → length configurations ≤ most_choices
    → chosen (take most_choices configurations) octets ≡ chosen configurations octets
choice_among_all configurations octets few = ap (λ all. chosen all octets) (take_all most_choices configurations few)

-- ---- what the number says

-- this configuration has the octets, and none before it has them
abbrev pub IsFirstEqual : List (List ℕ) → List ℕ → ℕ → Type 0
IsFirstEqual configurations octets number =
    (slice_get configurations number ≡ Some octets)
    × ((earlier : ℕ) → earlier < number → slice_get configurations earlier ≢ Some octets)

not_first : (first octets : List ℕ) → same_octets first octets ≡ false → Some first ≢ Some octets
not_first first octets different e =
    let same : same_octets first octets ≡ true = same_from first octets (same_Some first octets e) in absurd cc

none_before : (first : List ℕ) (others : List (List ℕ)) (octets : List ℕ) (number : ℕ) → same_octets first octets ≡ false
    → ((earlier : ℕ) → earlier < number → slice_get others earlier ≢ Some octets)
    → (earlier : ℕ) → earlier < suc number → slice_get (first ∷ others) earlier ≢ Some octets
none_before first others octets number different before zero h = not_first first octets different
none_before first others octets number different before (suc earlier) h = before earlier (omega arith)

first_by : (first : List ℕ) (others : List (List ℕ)) (octets : List ℕ) (number : ℕ) (b : Bool) (at : Option ℕ)
    → same_octets first octets ≡ b → ((n : ℕ) → at ≡ Some n → IsFirstEqual others octets n)
    → cond b (Some 0) (option_map suc at) ≡ Some number → IsFirstEqual (first ∷ others) octets number
first_by first others octets zero true at same behind e = (ap Some (same_are_equal first octets same), λ earlier h. absurd (omega (arith, h)))
first_by first others octets (suc number) true at same behind e = absurd cc
first_by first others octets number false None same behind e = absurd cc
first_by first others octets zero false (Some n) same behind e = absurd cc
first_by first others octets (suc number) false (Some n) same behind e =
    let is : Some n ≡ Some number = cc in
    let (here, before) = behind number is in
    (here, none_before first others octets number same before)

pub first_is_equal : (configurations : List (List ℕ)) (octets : List ℕ) (number : ℕ) → chosen configurations octets ≡ Some number → IsFirstEqual configurations octets number
first_is_equal [] octets number e = absurd cc
first_is_equal (first ∷ others) octets number e =
    first_by first others octets number (same_octets first octets) (chosen others octets) refl (first_is_equal others octets) e

behind_by : (first octets : List ℕ) (b : Bool) (at : Option ℕ) (number : ℕ) → same_octets first octets ≡ b → Some first ≢ Some octets
    → at ≡ Some number → cond b (Some 0) (option_map suc at) ≡ Some (suc number)
behind_by first octets true at number same differs e = absurd (differs (ap Some (same_are_equal first octets same)))
behind_by first octets false at number same differs e = rw e

pub first_equal_is_chosen : (configurations : List (List ℕ)) (octets : List ℕ) (number : ℕ) → IsFirstEqual configurations octets number → chosen configurations octets ≡ Some number
first_equal_is_chosen [] octets number h = let e : None ≡ Some octets = h.0 in absurd cc
first_equal_is_chosen (first ∷ others) octets zero h = cond-true _ _ _ (same_from first octets (same_Some first octets h.0))
first_equal_is_chosen (first ∷ others) octets (suc number) h =
    behind_by first octets (same_octets first octets) (chosen others octets) number refl (h.1 0 (omega arith))
    (first_equal_is_chosen others octets number (h.0, λ earlier p. h.1 (suc earlier) (omega (arith, p))))

none_by : (first : List ℕ) (others : List (List ℕ)) (octets : List ℕ) (b : Bool) (at : Option ℕ) → same_octets first octets ≡ b
    → (at ≡ None → (n : ℕ) → slice_get others n ≢ Some octets) → cond b (Some 0) (option_map suc at) ≡ None
    → (n : ℕ) → slice_get (first ∷ others) n ≢ Some octets
none_by first others octets true at same behind e n = absurd cc
none_by first others octets false (Some k) same behind e n = absurd cc
none_by first others octets false None same behind e zero = not_first first octets same
none_by first others octets false None same behind e (suc n) = behind refl n

pub none_is_equal : (configurations : List (List ℕ)) (octets : List ℕ) → chosen configurations octets ≡ None → (number : ℕ) → slice_get configurations number ≢ Some octets
none_is_equal [] octets e number = λ f. absurd cc
none_is_equal (first ∷ others) octets e number =
    none_by first others octets (same_octets first octets) (chosen others octets) refl (none_is_equal others octets) e number

none_in : (configurations : List (List ℕ)) (octets : List ℕ) (at : Option ℕ) → chosen configurations octets ≡ at
    → ((number : ℕ) → slice_get configurations number ≢ Some octets) → at ≡ None
none_in configurations octets None e none = refl
none_in configurations octets (Some n) e none = absurd (none n (first_is_equal configurations octets n e).0)

pub none_is_chosen : (configurations : List (List ℕ)) (octets : List ℕ) → ((number : ℕ) → slice_get configurations number ≢ Some octets) → chosen configurations octets ≡ None
none_is_chosen configurations octets none = none_in configurations octets (chosen configurations octets) refl none

-- the number stands for one of them
pub choice_is_within : (configurations : List (List ℕ)) (octets : List ℕ) (choice : Option ℕ)
    → choice ≡ chosen (take most_choices configurations) octets → IfSome choice (λ number. number < length configurations)
choice_is_within configurations octets None e = tt
choice_is_within configurations octets (Some number) e =
    let there : slice_get (take most_choices configurations) number ≡ Some octets = (first_is_equal (take most_choices configurations) octets number (sym e)).0 in
    let inside : number < length (take most_choices configurations) = slice_get_within (take most_choices configurations) number octets there in
    omega (arith, length-take most_choices configurations)
