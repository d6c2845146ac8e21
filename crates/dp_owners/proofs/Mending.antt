-- Changes of the links at one place of a list, as the code makes them.
use Rattle.std.proofs.Common.{◌≡◌, ◌≢◌, ℕ, zero, suc, ◌<◌, List, [], ◌∷◌, length, get_or, map, set, Option, Some, None, refl, sym, ap, ◌∙◌, arith}
use Rattle.std.specs.Prelude.{slice_get}
use Rattle.dp_owners.specs.declared.links.Links.{Links}
use Rattle.dp_owners.specs.Mending.{changed_at, changed_where}

-- places of a list
pub get_below : {A : Type 0} (xs : List A) (i : ℕ) (y : A) → slice_get xs i ≡ Some y → i < length xs
get_below [] i y e = absurd cc
get_below (x ∷ xs) zero y e = omega arith
get_below (x ∷ xs) (suc i) y e = omega (arith, get_below xs i y e)

pub get_there : {A : Type 0} (xs : List A) (i : ℕ) → i < length xs → (x : A) × (slice_get xs i ≡ Some x)
get_there [] i below = absurd (omega arith)
get_there (x ∷ xs) zero below = (x, refl)
get_there (x ∷ xs) (suc i) below = get_there xs i (omega arith)

pub get_map : {A B : Type 0} (f : A → B) (xs : List A) (i : ℕ) (x : A) → i < length xs → x ≡ get_or xs i x → slice_get (map f xs) i ≡ Some (f x)
get_map f [] i x below is = absurd (omega arith)
get_map f (y ∷ xs) zero x below is = ap (λ z. Some (f z)) (sym is)
get_map f (y ∷ xs) (suc i) x below is = get_map f xs i x (omega arith) is

-- links after a change
pub get_changed : (change : Links → Links) (links : List Links) (i : ℕ) (own : Links) → slice_get links i ≡ Some own → slice_get (changed_at change i links) i ≡ Some (change own)
get_changed change [] i own e = absurd cc
get_changed change (x ∷ links) zero own e = let same : x ≡ own = cc in ap (λ z. Some (change z)) same
get_changed change (x ∷ links) (suc i) own e = get_changed change links i own e

get_others : (change : Links → Links) (links : List Links) (i j : ℕ) → i ≢ j → slice_get (changed_at change i links) j ≡ slice_get links j
get_others change [] i j other = refl
get_others change (x ∷ links) zero zero other = absurd (other refl)
get_others change (x ∷ links) zero (suc j) other = refl
get_others change (x ∷ links) (suc i) zero other = refl
get_others change (x ∷ links) (suc i) (suc j) other = get_others change links i j (λ e. other (ap suc e))

pub get_unchanged : (change : Links → Links) (at : Option ℕ) (links : List Links) (j : ℕ) → at ≢ Some j → slice_get (changed_where change at links) j ≡ slice_get links j
get_unchanged change None links j other = refl
get_unchanged change (Some i) links j other = get_others change links i j (λ e. other (ap Some e))

length-changed_at : (change : Links → Links) (at : ℕ) (links : List Links) → length (changed_at change at links) ≡ length links
length-changed_at change at [] = refl
length-changed_at change zero (x ∷ links) = refl
length-changed_at change (suc at) (x ∷ links) = ap suc (length-changed_at change at links)

pub length-changed_where : (change : Links → Links) (at : Option ℕ) (links : List Links) → length (changed_where change at links) ≡ length links
length-changed_where change None links = refl
length-changed_where change (Some at) links = length-changed_at change at links

-- one record written
pub links_written : {A : Type 0} (links_of : A → Links) (change : Links → Links) (xs : List A) (i : ℕ) (x y : A) → i < length xs → x ≡ get_or xs i x → links_of y ≡ change (links_of x)
    → map links_of (set xs i y) ≡ changed_at change i (map links_of xs)
links_written links_of change [] i x y below is wrote = absurd (omega arith)
links_written links_of change (z ∷ xs) zero x y below is wrote = ap (λ own. own ∷ map links_of xs) (wrote ∙ ap (λ w. change (links_of w)) is)
links_written links_of change (z ∷ xs) (suc i) x y below is wrote = ap (λ links. links_of z ∷ links) (links_written links_of change xs i x y (omega arith) is wrote)

pub all_else_written : {A B : Type 0} (bare : A → B) (xs : List A) (i : ℕ) (x y : A) → x ≡ get_or xs i x → bare y ≡ bare x → map bare (set xs i y) ≡ map bare xs
all_else_written bare [] i x y is same = refl
all_else_written bare (z ∷ xs) zero x y is same = ap (λ w. w ∷ map bare xs) (same ∙ ap bare is)
all_else_written bare (z ∷ xs) (suc i) x y is same = ap (λ ws. bare z ∷ ws) (all_else_written bare xs i x y is same)

pub length-same_map : {A B : Type 0} (f : A → B) (xs ys : List A) → map f xs ≡ map f ys → length xs ≡ length ys
length-same_map f [] [] same = refl
length-same_map f [] (y ∷ ys) same = absurd cc
length-same_map f (x ∷ xs) [] same = absurd cc
length-same_map f (x ∷ xs) (y ∷ ys) same = let rest : map f xs ≡ map f ys = cc in ap suc (length-same_map f xs ys rest)
