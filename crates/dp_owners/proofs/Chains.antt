-- Chains of records, and chains after a change of one link.
use Rattle.std.proofs.Common.{◌≡◌, ℕ, zero, suc, ◌<◌, List, [], ◌∷◌, ◌++◌, length, map, reverse, Option, Some, None, refl, sym, ap, subst, ◌∙◌}
use Rattle.std.specs.Prelude.{slice_get, IfSome}
use Rattle.std.proofs.lemmas.List.{reverse-append}
use Rattle.dp_owners.specs.declared.links.Links.{Links}
use Rattle.dp_owners.specs.Positions.{first_or, last_or, IsDistinct}
use Rattle.dp_owners.specs.Chain.{IsChain}
use Rattle.dp_owners.specs.Mending.{changed_where, with_next, with_prev, mirrored}
use Rattle.dp_owners.proofs.Mending.{get_below, get_changed, get_unchanged}
use Rattle.dp_owners.proofs.Positions.{Misses, misses_first, misses_rest, last_is_other, last_join}

-- a chain stays if no record of it changes
pub chain_kept : (change : Links → Links) (at : Option ℕ) (links : List Links) (before : Option ℕ) (xs : List ℕ) (after : Option ℕ)
    → Misses at xs → IsChain links before xs after → IsChain (changed_where change at links) before xs after
chain_kept change at links before [] after missed chain = tt
chain_kept change at links before (x ∷ xs) after missed chain = (
  get_unchanged change at links x (misses_first at x xs missed) ∙ chain.0,
  chain_kept change at links (Some x) xs after (misses_rest at x xs missed) chain.1,
)

-- the last record gets another successor
pub relink_last : (links : List Links) (before : Option ℕ) (xs : List ℕ) (after later : Option ℕ)
    → IsDistinct xs → IsChain links before xs after → IsChain (changed_where (with_next later) (last_or None xs) links) before xs later
relink_last links before [] after later distinct chain = tt
relink_last links before (x ∷ []) after later distinct chain = (get_changed (with_next later) links x _ chain.0, tt)
relink_last links before (x ∷ y ∷ xs) after later distinct chain = (
  get_unchanged (with_next later) (last_or (Some y) xs) links x (last_is_other x (Some y) xs (λ e. distinct.0.0 cc) distinct.0.1) ∙ chain.0,
  relink_last links (Some x) (y ∷ xs) after later distinct.1 chain.1,
)

-- the first record gets another predecessor
pub relink_first : (links : List Links) (before earlier : Option ℕ) (xs : List ℕ) (after : Option ℕ)
    → IsDistinct xs → IsChain links before xs after → IsChain (changed_where (with_prev earlier) (first_or xs None) links) earlier xs after
relink_first links before earlier [] after distinct chain = tt
relink_first links before earlier (x ∷ xs) after distinct chain = (
  get_changed (with_prev earlier) links x _ chain.0,
  chain_kept (with_prev earlier) (Some x) links (Some x) xs after distinct.0 chain.1,
)

-- two chains, one after the other
pub chain_join : (links : List Links) (before : Option ℕ) (xs ys : List ℕ) (after : Option ℕ)
    → IsChain links before xs (first_or ys after) → IsChain links (last_or before xs) ys after → IsChain links before (xs ++ ys) after
chain_join links before [] ys after one two = two
chain_join links before (x ∷ []) ys after one two = (one.0, two)
chain_join links before (x ∷ y ∷ xs) ys after one two = (one.0, chain_join links (Some x) (y ∷ xs) ys after one.1 two)

pub chain_front : (links : List Links) (before : Option ℕ) (xs ys : List ℕ) (after : Option ℕ) → IsChain links before (xs ++ ys) after → IsChain links before xs (first_or ys after)
chain_front links before [] ys after chain = tt
chain_front links before (x ∷ []) ys after chain = (chain.0, tt)
chain_front links before (x ∷ y ∷ xs) ys after chain = (chain.0, chain_front links (Some x) (y ∷ xs) ys after chain.1)

pub chain_back : (links : List Links) (before : Option ℕ) (xs ys : List ℕ) (after : Option ℕ) → IsChain links before (xs ++ ys) after → IsChain links (last_or before xs) ys after
chain_back links before [] ys after chain = chain
chain_back links before (x ∷ xs) ys after chain = chain_back links (Some x) xs ys after chain.1

-- the first and the last of a chain are records
pub first_below : (links : List Links) (before : Option ℕ) (xs : List ℕ) → IsChain links before xs None → IfSome (first_or xs None) (λ at. at < length links)
first_below links before [] chain = tt
first_below links before (x ∷ xs) chain = get_below links x _ chain.0

pub last_below : (links : List Links) (before : Option ℕ) (xs : List ℕ) (after : Option ℕ) → IfSome before (λ at. at < length links) → IsChain links before xs after → IfSome (last_or before xs) (λ at. at < length links)
last_below links before [] after below chain = below
last_below links before (x ∷ xs) after below chain = last_below links (Some x) xs after (get_below links x _ chain.0) chain.1

-- a chain read backwards
pub get_mirrored : (links : List Links) (i : ℕ) (own : Links) → slice_get links i ≡ Some own → slice_get (map mirrored links) i ≡ Some (mirrored own)
get_mirrored [] i own e = absurd cc
get_mirrored (x ∷ links) zero own e = let same : x ≡ own = cc in ap (λ z. Some (mirrored z)) same
get_mirrored (x ∷ links) (suc i) own e = get_mirrored links i own e

last_reverse : (xs : List ℕ) (after : Option ℕ) → last_or after (reverse xs) ≡ first_or xs after
last_reverse [] after = refl
last_reverse (y ∷ xs) after =
    ap (last_or after) (reverse-append (y ∷ []) xs) ∙ last_join after (reverse xs) (y ∷ [])

first_join : (xs ys : List ℕ) (after : Option ℕ) → first_or (xs ++ ys) after ≡ first_or xs (first_or ys after)
first_join [] ys after = refl
first_join (x ∷ xs) ys after = refl

pub first_reverse : (xs : List ℕ) (before : Option ℕ) → first_or (reverse xs) before ≡ last_or before xs
first_reverse [] before = refl
first_reverse (x ∷ xs) before =
    ap (λ list. first_or list before) (reverse-append (x ∷ []) xs) ∙ first_join (reverse xs) (x ∷ []) before ∙ first_reverse xs (Some x)

pub chain_reverse : (links : List Links) (before : Option ℕ) (xs : List ℕ) (after : Option ℕ) → IsChain links before xs after → IsChain (map mirrored links) after (reverse xs) before
chain_reverse links before [] after chain = tt
chain_reverse links before (x ∷ xs) after chain =
    subst (λ list. IsChain (map mirrored links) after list before) (sym (reverse-append (x ∷ []) xs))
    (chain_join (map mirrored links) after (reverse xs) (x ∷ []) before
    (chain_reverse links (Some x) xs after chain.1)
    (get_mirrored links x _ chain.0 ∙ ap (λ o. Some (record { prev = o; next = before })) (sym (last_reverse xs after)), tt))
