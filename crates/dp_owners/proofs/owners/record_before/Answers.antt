use Rattle.std.proofs.Common.{◌≡◌, ◌<◌, ℕ, length, get_or, map, List, Option, Some, sym, ap, ◌∙◌, arith}
use Rattle.std.specs.Option.{option_and_then}
use Rattle.dp_owners.specs.declared.links.Links.{Links}
use Rattle.dp_owners.specs.Mending.{mirrored}
use Rattle.dp_owners.specs.Reading.{next_of}
use Rattle.dp_owners.proofs.Mending.{get_map}
use Rattle.dp_owners.proofs.Chains.{get_mirrored}
use Rattle.dp_owners.proofs.owners.record_before.Goals as goal

before_read : {A : Type 0} (links_of : A → Links) (xs : List A) (i : ℕ) (x : A) (at : Option ℕ) → i < length xs → x ≡ get_or xs i x → at ≡ Some i
    → (links_of x).prev ≡ next_of (map mirrored (map links_of xs)) at
before_read links_of xs i x at below is there =
    sym (ap (next_of (map mirrored (map links_of xs))) there
    ∙ ap (option_and_then (λ (own : Links). own.next)) (get_mirrored (map links_of xs) i (links_of x) (get_map links_of xs i x below is)))

pub returns : goal.returns
returns g c =
    let was : c.args.at ≡ Some c.in_ok-at.field-0 = c.in_ok-at.was in
    let less : c.in_ok-at.field-0 < length c.args.records.now = rw was at c.requires in
    ap (λ (own : Links). own.prev) c.links.ensures
    ∙ before_read g.T.Linked.links_of c.args.records.now c.from.result c.index-records-from.result c.args.at (omega (arith, less, c.from.ensures)) c.index-records-from.is (was ∙ ap Some (sym c.from.ensures))
