-- The lists determine the heads, the tails and the links.
use Rattle.std.proofs.Common.{◌≡◌, ◌≢◌, ℕ, zero, suc, ◌<◌, Bool, true, false, eqb, List, [], ◌∷◌, length, get_or, Some, None, refl, sym, ap, subst, ◌∙◌, arith, inl, inr}
use Rattle.std.specs.Prelude.{◌⊎◌, slice_get}
use Rattle.std.proofs.lemmas.Bool.{eqb-true, eqb-false}
use Rattle.dp_owners.specs.declared.owners.TheConstants.{MOST_MASTERS}
use Rattle.dp_owners.specs.declared.links.Links.{Links}
use Rattle.dp_owners.specs.declared.owners.Owners.{Owners}
use Rattle.dp_owners.specs.Positions.{first_or, last_or, NotIn, IsIn}
use Rattle.dp_owners.specs.Threaded.{IsThreaded}
use Rattle.dp_owners.proofs.Unlinks.{links_in}

-- a record is in one of the lists or in none
in_by : (at x : ℕ) (xs : List ℕ) (b : Bool) → eqb x at ≡ b → IsIn at xs ⊎ NotIn at xs → IsIn at (x ∷ xs) ⊎ NotIn at (x ∷ xs)
in_by at x xs true e later = inl ([], xs, ap (λ y. y ∷ xs) (eqb-true x at e))
in_by at x xs false e (inl there) = inl (x ∷ there.0, there.1, ap (λ ys. x ∷ ys) there.2)
in_by at x xs false e (inr out) = inr (eqb-false x at e, out)

in_or_out : (at : ℕ) (xs : List ℕ) → IsIn at xs ⊎ NotIn at xs
in_or_out at [] = inr tt
in_or_out at (x ∷ xs) = in_by at x xs (eqb x at) refl (in_or_out at xs)

abbrev IsAmong : ℕ → ℕ → (ℕ → List ℕ) → Type 0
IsAmong at n lists = (m : ℕ) × (m < n) × IsIn at (lists m)

abbrev IsNowhere : ℕ → ℕ → (ℕ → List ℕ) → Type 0
IsNowhere at n lists = (m : ℕ) → m < n → NotIn at (lists m)

last_or_before : (at n : ℕ) (lists : ℕ → List ℕ) → NotIn at (lists n) → IsNowhere at n lists → (m : ℕ) (b : Bool) → eqb m n ≡ b → m < suc n → NotIn at (lists m)
last_or_before at n lists out none m true e below = subst (λ k. NotIn at (lists k)) (sym (eqb-true m n e)) out
last_or_before at n lists out none m false e below = let other : m ≢ n = eqb-false m n e in none m (omega arith)

among_by : (at n : ℕ) (lists : ℕ → List ℕ) → IsIn at (lists n) ⊎ NotIn at (lists n) → IsAmong at n lists ⊎ IsNowhere at n lists → IsAmong at (suc n) lists ⊎ IsNowhere at (suc n) lists
among_by at n lists (inl there) before = inl (n, omega arith, there)
among_by at n lists (inr out) (inl found) = inl (found.0, omega (arith, found.1), found.2)
among_by at n lists (inr out) (inr none) = inr (λ m below. last_or_before at n lists out none m (eqb m n) refl below)

among_or_nowhere : (at n : ℕ) (lists : ℕ → List ℕ) → IsAmong at n lists ⊎ IsNowhere at n lists
among_or_nowhere at zero lists = inr (λ m below. absurd (omega arith))
among_or_nowhere at (suc n) lists = among_by at n lists (in_or_out at (lists n)) (among_or_nowhere at n lists)

-- lists that are equal at each place are equal
same_by_get : {A : Type 0} (xs ys : List A) → length xs ≡ length ys → ((i : ℕ) → i < length xs → slice_get xs i ≡ slice_get ys i) → xs ≡ ys
same_by_get [] [] long same = refl
same_by_get [] (y ∷ ys) long same = absurd (omega arith)
same_by_get (x ∷ xs) [] long same = absurd (omega arith)
same_by_get (x ∷ xs) (y ∷ ys) long same =
    let here : Some x ≡ Some y = same 0 (omega arith) in
    let rest : xs ≡ ys = same_by_get xs ys (omega arith) (λ i below. same (suc i) (omega arith)) in
    cc

same_by_get_or : {A : Type 0} (d : A) (xs ys : List A) → length xs ≡ length ys → ((i : ℕ) → i < length xs → get_or xs i d ≡ get_or ys i d) → xs ≡ ys
same_by_get_or d [] [] long same = refl
same_by_get_or d [] (y ∷ ys) long same = absurd (omega arith)
same_by_get_or d (x ∷ xs) [] long same = absurd (omega arith)
same_by_get_or d (x ∷ xs) (y ∷ ys) long same =
    let here : x ≡ y = same 0 (omega arith) in
    let rest : xs ≡ ys = same_by_get_or d xs ys (omega arith) (λ i below. same (suc i) (omega arith)) in
    cc

-- heads, tails and links of the same lists
abbrev SameBelow : (ℕ → List ℕ) → (ℕ → List ℕ) → Type 0
SameBelow lists others = (m : ℕ) → m < MOST_MASTERS → lists m ≡ others m

same_links_at : (owners later : Owners) (links after : List Links) (lists others : ℕ → List ℕ) (at : ℕ) → IsThreaded owners links lists → IsThreaded later after others → SameBelow lists others
    → at < length links → at < length after → IsAmong at MOST_MASTERS lists ⊎ IsNowhere at MOST_MASTERS lists → slice_get links at ≡ slice_get after at
same_links_at owners later links after lists others at one two same below within (inl found) =
    links_in links at found.2.0 found.2.1 (lists found.0) found.2.2 (one.chains found.0 found.1)
    ∙ sym (links_in after at found.2.0 found.2.1 (others found.0) (sym (same found.0 found.1) ∙ found.2.2) (two.chains found.0 found.1))
same_links_at owners later links after lists others at one two same below within (inr none) =
    one.unlisted at below none ∙ sym (two.unlisted at within (λ m small. subst (NotIn at) (same m small) (none m small)))

pub same_all : (owners later : Owners) (links after : List Links) (lists others : ℕ → List ℕ) → IsThreaded owners links lists → IsThreaded later after others → length links ≡ length after → SameBelow lists others
    → (owners ≡ later) × (links ≡ after)
same_all owners later links after lists others one two long same =
    let heads : owners.heads ≡ later.heads = same_by_get_or None owners.heads later.heads (one.ends.0 ∙ sym (two.ends.0))
    (λ m below. let small : m < MOST_MASTERS = omega (arith, below, one.ends.0) in one.heads m small ∙ ap (λ xs. first_or xs None) (same m small) ∙ sym (two.heads m small)) in
    let tails : owners.tails ≡ later.tails = same_by_get_or None owners.tails later.tails (one.ends.1 ∙ sym (two.ends.1))
    (λ m below. let small : m < MOST_MASTERS = omega (arith, below, one.ends.1) in one.tails m small ∙ ap (last_or None) (same m small) ∙ sym (two.tails m small)) in (
      ap (λ ends. record { heads = ends; tails = owners.tails }) heads ∙ ap (λ ends. record { heads = later.heads; tails = ends }) tails,
      same_by_get links after long (λ at below. same_links_at owners later links after lists others at one two same below (omega (arith, below, long)) (among_or_nowhere at MOST_MASTERS lists)),
    )
