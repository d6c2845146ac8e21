-- A walk along a list, step by step.
use Rattle.std.proofs.Common.{◌≡◌, ℕ, ◌+◌, ◌<◌, ◌≤◌, List, [], ◌∷◌, ◌++◌, length, get_or, map, Option, Some, None, sym, ap, subst, ◌∙◌, arith, append_assoc, length-append}
use Rattle.std.specs.Prelude.{IfSome}
use Rattle.std.specs.Option.{option_to_list, option_and_then}
use Rattle.std.proofs.lemmas.List.{nil_from_length}
use Rattle.dp_owners.specs.declared.cursor.Cursor.{Cursor}
use Rattle.dp_owners.specs.declared.links.Links.{Links}
use Rattle.dp_owners.specs.Positions.{first_or, last_or, rest_of}
use Rattle.dp_owners.specs.Chain.{IsChain}
use Rattle.dp_owners.specs.Walk.{IsWalk}
use Rattle.dp_owners.specs.Reading.{next_of}
use Rattle.dp_owners.proofs.Mending.{get_map}
use Rattle.dp_owners.proofs.Positions.{append_nil, last_join}
use Rattle.dp_owners.proofs.Chains.{first_below}

-- the cursor after a step
step_by : (links : List Links) (given rest : List ℕ) (cursor later : Cursor) → IsWalk cursor links given rest
    → later.at ≡ next_of links (first_or rest None) → later.visits ≡ length (given ++ option_to_list (first_or rest None))
    → IsWalk later links (given ++ option_to_list (first_or rest None)) (rest_of rest)
step_by links given [] cursor later walk at visits = record {
  visits = visits;
  at = at;
  chain = tt;
  room = omega (arith, walk.room, length-append given []);
}
step_by links given (x ∷ rest) cursor later walk at visits = record {
  visits = visits;
  at = at ∙ ap (option_and_then (λ (own : Links). own.next)) walk.chain.0;
  chain = subst (λ before. IsChain links before rest None) (sym (last_join None given (x ∷ []))) walk.chain.1;
  room = omega (arith, walk.room, length-append given (x ∷ []));
}

pub walk_on : (links : List Links) (given rest : List ℕ) (cursor later : Cursor) → IsWalk cursor links given rest
    → later.at ≡ next_of links cursor.at → later.visits ≡ length (given ++ option_to_list cursor.at)
    → (cursor.at ≡ first_or rest None) × IsWalk later links (given ++ option_to_list cursor.at) (rest_of rest)
walk_on links given rest cursor later walk at visits = (
  walk.at,
  subst (λ o. IsWalk later links (given ++ option_to_list o) (rest_of rest)) (sym walk.at)
      (step_by links given rest cursor later walk (at ∙ ap (next_of links) walk.at) (visits ∙ ap (λ o. length (given ++ option_to_list o)) walk.at)),
)

pub walk_below : (links : List Links) (given rest : List ℕ) (cursor : Cursor) → IsWalk cursor links given rest → IfSome cursor.at (λ at. at < length links)
walk_below links given rest cursor walk =
    subst (λ o. IfSome o (λ at. at < length links)) (sym walk.at) (first_below links (last_or None given) rest walk.chain)

-- the record after one, read from its links
pub next_read : {A : Type 0} (links_of : A → Links) (xs : List A) (i : ℕ) (x : A) (at : Option ℕ) → i < length xs → x ≡ get_or xs i x → at ≡ Some i
    → (links_of x).next ≡ next_of (map links_of xs) at
next_read links_of xs i x at below is there =
    sym (ap (next_of (map links_of xs)) there ∙ ap (option_and_then (λ (own : Links). own.next)) (get_map links_of xs i x below is))

-- a loop's walk along a list: what is left of it fits in the steps that are left
pub record IsUnderway (cursor : Cursor) (links : List Links) (list given : List ℕ) (steps : ℕ) : Type 0 where
  pub rest : List ℕ
  pub is : list ≡ given ++ rest
  pub walk : IsWalk cursor links given rest
  pub soon : length rest ≤ steps

next_part : (list given rest : List ℕ) → list ≡ given ++ rest → list ≡ (given ++ option_to_list (first_or rest None)) ++ rest_of rest
next_part list given [] is = is ∙ sym (append_nil (given ++ []))
next_part list given (x ∷ rest) is = is ∙ sym (append_assoc given (x ∷ []) rest)

length-rest_of : (rest : List ℕ) (steps later : ℕ) → length rest ≤ steps → steps ≤ later + 1 → length (rest_of rest) ≤ later
length-rest_of [] steps later soon less = omega arith
length-rest_of (x ∷ rest) steps later soon less = omega arith

pub underway_on : (links : List Links) (list given after : List ℕ) (steps fewer : ℕ) (cursor later : Cursor) (taken : Option ℕ) → IsUnderway cursor links list given steps → steps ≤ fewer + 1 → after ≡ given ++ option_to_list taken
    → ((given rest : List ℕ) → IsWalk cursor links given rest → (taken ≡ first_or rest None) × IsWalk later links (given ++ option_to_list taken) (rest_of rest))
    → IsUnderway later links list after fewer
underway_on links list given after steps fewer cursor later taken under less wrote on =
    subst (λ all. IsUnderway later links list all fewer) (sym wrote)
    record {
      rest = rest_of under.rest;
      is = next_part list given under.rest under.is ∙ ap (λ o. (given ++ option_to_list o) ++ rest_of under.rest) (sym (on given under.rest under.walk).0);
      walk = (on given under.rest under.walk).1;
      soon = length-rest_of under.rest steps fewer under.soon less;
    }

pub underway_end : (links : List Links) (list given : List ℕ) (steps : ℕ) (cursor : Cursor) → IsUnderway cursor links list given steps → steps ≡ 0 → given ≡ list
underway_end links list given steps cursor under over =
    let none : under.rest ≡ [] = nil_from_length under.rest (omega (arith, under.soon, over)) in
    sym (under.is ∙ ap (λ rest. given ++ rest) none ∙ append_nil given)

pub room_more : (xs ys : List ℕ) (o : Option ℕ) (n : ℕ) → ys ≡ xs ++ option_to_list o → length xs ≤ n → length ys ≤ n + 1
room_more xs ys None n e few = omega (arith, ap (λ (k : List ℕ). length k) e, length-append xs [])
room_more xs ys (Some at) n e few = omega (arith, ap (λ (k : List ℕ). length k) e, length-append xs (at ∷ []))
