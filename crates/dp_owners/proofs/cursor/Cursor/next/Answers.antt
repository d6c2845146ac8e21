use Rattle.std.proofs.Common.{◌≡◌, ◌+◌, ◌<◌, ℕ, List, [], ◌∷◌, ◌++◌, length, map, Option, Some, None, refl, sym, ap, subst, ◌∙◌, arith, length-append}
use Rattle.std.specs.Prelude.{IfSome}
use Rattle.std.specs.Option.{option_to_list}
use Rattle.std.proofs.lemmas.List.{length-map}
use Rattle.dp_owners.specs.declared.cursor.Cursor.{Cursor}
use Rattle.dp_owners.specs.declared.links.Links.{Links}
use Rattle.dp_owners.specs.Positions.{first_or, rest_of}
use Rattle.dp_owners.specs.Walk.{IsWalk}
use Rattle.dp_owners.specs.Reading.{next_of}
use Rattle.dp_owners.proofs.Walks.{walk_on, walk_below, next_read}
use Rattle.dp_owners.proofs.cursor.Cursor.next.Goals as goal

-- a step at a record
took : (links : List Links) (given rest : List ℕ) (cursor later : Cursor) (here : ℕ) → IsWalk cursor links given rest → cursor.at ≡ Some here → later.at ≡ next_of links cursor.at → later.visits ≡ cursor.visits + 1
    → (Some here ≡ first_or rest None) × IsWalk later links (given ++ here ∷ []) (rest_of rest)
took links given rest cursor later here walk was at visits =
    let count : later.visits ≡ length (given ++ here ∷ []) = omega (arith, visits, walk.visits, length-append given (here ∷ [])) in
    subst (λ o. (o ≡ first_or rest None) × IsWalk later links (given ++ option_to_list o) (rest_of rest)) was
    (walk_on links given rest cursor later walk at (count ∙ ap (λ o. length (given ++ option_to_list o)) (sym was)))

here_below : (n m : ℕ) (o : Option ℕ) (i here : ℕ) → IfSome o (λ at. at < n) → n ≡ m → o ≡ Some here → i ≡ here → i < m
here_below n m o i here below same was e = let less : here < n = rw was at below in omega (arith, less, same, e)

pub returns : goal.returns
returns g c given rest walk =
    let was : c.args.self.now.at ≡ Some c.in_ok-here.here = c.in_ok-here.was in
    let below : c.from.result < length c.args.records.now = here_below (length (map g.T.Linked.links_of c.args.records.now)) (length c.args.records.now) c.args.self.now.at c.from.result c.in_ok-here.here
    (walk_below (map g.T.Linked.links_of c.args.records.now) given rest c.args.self.now walk) (length-map c.args.records.now g.T.Linked.links_of) was c.from.ensures in
    took (map g.T.Linked.links_of c.args.records.now) given rest c.args.self.now (record { at = c.links.result.next; visits = c.args.self.now.visits + 1 }) c.in_ok-here.here walk was
    (ap (λ (own : Links). own.next) c.links.ensures ∙ next_read g.T.Linked.links_of c.args.records.now c.from.result c.index-records-from.result c.args.self.now.at below c.index-records-from.is (was ∙ ap Some (sym c.from.ensures)))
    refl
