-- Reading each value of an array in turn, as a loop does it.
use Rattle.std.proofs.Common.{◌≡◌, ℕ, suc, ◌+◌, ◌<◌, ◌≤◌, List, [], ◌∷◌, ◌++◌, length, get_or, take, drop, map, Option, Some, None, Result, Ok, Err, refl, ap, subst, arith}
use Rattle.std.proofs.Math.Seq.{split_at}
use Rattle.std.proofs.lemmas.List.{map_more, map-append, length-map, length-take-le}
use Rattle.toml.specs.Data.{Data}
use Rattle.toml.specs.View.{view}
use Rattle.toml.specs.declared.value.Value.{Value}
use Rattle.rack_file.specs.Gives.{Refuses}
use Rattle.rack_file.specs.TomlKeys.{◌>>=◌, each_from}

-- a first part that was read, and the rest
unfoldable pub with_front : {A E : Type 0} → List A → Result (List A) E → Result (List A) E
with_front done read = read >>= λ others. Ok (done ++ others)

with_front-cons : {A E : Type 0} (first : A) (done : List A) (read : Result (List A) E) → (with_front done read >>= λ others. Ok (first ∷ others)) ≡ with_front (first ∷ done) read
unfolding with_front
with_front-cons first done (Ok others) = refl
with_front-cons first done (Err fault) = refl

with_front-empty : {A E : Type 0} (read : Result (List A) E) → read ≡ with_front [] read
unfolding with_front
with_front-empty (Ok others) = refl
with_front-empty (Err fault) = refl

abbrev pub read_ok : {A : Type 0} (E : Type 0) → A → Result A E
read_ok E x = Ok x

pub ok_parts : {A : Type 0} (E : Type 0) (x y : A) → read_ok E x ≡ read_ok E y → x ≡ y
ok_parts E x y e = cc

pub done_parts : {A B E : Type 0} (r : Result A E) (f : A → Result B E) (y : B) → (r >>= f) ≡ Ok y → (x : A) × (r ≡ Ok x) × (f x ≡ Ok y)
done_parts (Ok x) f y e = (x, refl, e)
done_parts (Err fault) f y e = absurd cc

append_cons : {A E : Type 0} (read : ℕ → Data → Result A E) (position after : ℕ) (x : Data) (xs ys : List Data) (first : A) (others : List A)
    → read position x ≡ Ok first → each_from read (position + 1) (xs ++ ys) ≡ with_front others (each_from read after ys)
    → each_from read position (x ∷ (xs ++ ys)) ≡ with_front (first ∷ others) (each_from read after ys)
unfolding each_from
append_cons read position after x xs ys first others here rest = rw (here, rest) (with_front-cons first others (each_from read after ys))

-- what is read of a list whose first part was read; the others begin at this position
pub each_from-append : {A E : Type 0} (read : ℕ → Data → Result A E) (position after : ℕ) (xs ys : List Data) (done : List A)
    → after ≡ position + length xs → each_from read position xs ≡ Ok done → each_from read position (xs ++ ys) ≡ with_front done (each_from read after ys)
unfolding each_from
each_from-append {A = A} {E = E} read position after [] ys done same e =
    let here : after ≡ position = omega arith in
    subst (λ (d : List A). each_from read position ys ≡ with_front d (each_from read after ys)) (ok_parts E [] done e) (rw here (with_front-empty (each_from read position ys)))
each_from-append {A = A} {E = E} read position after (x ∷ xs) ys done same e =
    let (first, here, more) = done_parts (read position x) (λ first. each_from read (position + 1) xs >>= λ others. Ok (first ∷ others)) done e in
    let (others, there, whole) = done_parts (each_from read (position + 1) xs) (λ others. Ok (first ∷ others)) done more in
    subst (λ (d : List A). each_from read position (x ∷ (xs ++ ys)) ≡ with_front d (each_from read after ys)) (ok_parts E (first ∷ others) done whole)
    (append_cons read position after x xs ys first others here (each_from-append read (position + 1) after xs ys others (omega arith) there))

refuses_then : {A B E : Type 0} (fault : Option E) (r : Result A E) (f : A → Result B E) → Refuses fault r → Refuses fault (r >>= f)
refuses_then None r f h = tt
refuses_then (Some fault) r f h = rw h

-- ---- a loop over the values of an array

-- the position of the value after the first i
next_position : (values : List Value) (i : ℕ) → i < length values → i + 1 ≡ 1 + length (map view (take i values))
next_position values i within =
    let some : i ≤ length values = omega arith in
    rw (length-map (take i values) view, length-take-le i values some) (omega arith)

-- one more value was read
pub each_more : {A E : Type 0} (read : ℕ → Data → Result A E) (values : List Value) (i : ℕ) (value : Value) (done : List A) (x : A)
    → i < length values → get_or values i value ≡ value → each_from read 1 (map view (take i values)) ≡ Ok done → read (i + 1) (view value) ≡ Ok x
    → each_from read 1 (map view (take (i + 1) values)) ≡ Ok (done ++ x ∷ [])
unfolding each_from with_front
each_more read values i value done x within is so_far here =
    let after = next_position values i within in
    rw (map_more view values i value within, is, each_from-append read 1 (i + 1) (map view (take i values)) (view value ∷ []) done after so_far, here)

-- a value isn't accepted
pub each_stops : {A E : Type 0} (read : ℕ → Data → Result A E) (values : List Value) (i : ℕ) (value : Value) (done : List A) (fault : Option E)
    → i < length values → get_or values i value ≡ value → each_from read 1 (map view (take i values)) ≡ Ok done → Refuses fault (read (i + 1) (view value))
    → Refuses fault (each_from read 1 (map view values))
unfolding each_from with_front
each_stops read values i value done fault within is so_far here =
    let after = next_position values i within in
    let parts : map view values ≡ map view (take i values) ++ view value ∷ map view (drop (suc i) values) = rw (ap (map view) (split_at values i value within), is, map-append) in
    rw (parts, each_from-append read 1 (i + 1) (map view (take i values)) (view value ∷ map view (drop (suc i) values)) done after so_far)
    (refuses_then fault _ _ (refuses_then fault (read (i + 1) (view value)) _ here))
