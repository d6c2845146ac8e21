use Rattle.std.proofs.Common.{◌≡◌, ◌<◌, length, get_or, map, set, List, Some, ℕ, sym, ap, subst, ◌∙◌, arith}
use Rattle.std.specs.Prelude.{slice_get, IfSome}
use Rattle.std.proofs.lemmas.List.{length-map}
use Rattle.dp_owners.specs.declared.links.Links.{Links}
use Rattle.dp_owners.specs.declared.owners.Owners.{Owners}
use Rattle.dp_owners.specs.Mending.{changed_at, changed_where, with_prev, with_end}
use Rattle.dp_owners.specs.Threaded.{IsThreaded, unlinked}
use Rattle.dp_owners.proofs.Mending.{get_map, links_written, all_else_written, length-same_map}
use Rattle.dp_owners.proofs.Unlinks.{cleared, mended_owners, mended_links, thread_unlink, neighbours_below}
use Rattle.dp_owners.proofs.owners.Owners.unlink.Goals as goal

here_is : {A : Type 0} (f : A → Links) (xs : List A) (i : ℕ) (x : A) (own : Links) → i < length xs → x ≡ get_or xs i x → own ≡ f (get_or xs i x) → slice_get (map f xs) i ≡ Some own
here_is f xs i x own below is e = get_map f xs i x below is ∙ ap Some (ap f is ∙ sym e)

pub mend_next-requires-clause-prev : goal.mend_next-requires-clause-prev
mend_next-requires-clause-prev g c =
    let here = here_is g.T.Linked.links_of c.args.records.now c.args.at c.index-records-at.result c.links-links.result c.requires.at c.index-records-at.is c.links-links.ensures in
    subst (λ (n : ℕ). IfSome c.links-links.result.prev (λ x. x < n)) (length-map c.args.records.now g.T.Linked.links_of)
    (neighbours_below c.args.self.now (map g.T.Linked.links_of c.args.records.now) c.requires.listed.0 c.args.master c.args.at c.links-links.result c.requires.master c.requires.listed.1.1 here c.requires.listed.1.0).0

pub mend_prev-requires-clause-next : goal.mend_prev-requires-clause-next
mend_prev-requires-clause-next g c =
    let here = here_is g.T.Linked.links_of c.args.records.now c.args.at c.index-records-at.result c.links-links.result c.requires.at c.index-records-at.is c.links-links.ensures in
    subst (λ (n : ℕ). IfSome c.links-links.result.next (λ x. x < n)) (length-map c.args.records.now g.T.Linked.links_of ∙ sym (length-same_map g.T.Linked.bare c.mend_next.new.records c.args.records.now c.mend_next.ensures.all_else))
    (neighbours_below c.args.self.now (map g.T.Linked.links_of c.args.records.now) c.requires.listed.0 c.args.master c.args.at c.links-links.result c.requires.master c.requires.listed.1.1 here c.requires.listed.1.0).1

pub returns-clause-lists : goal.returns-clause-lists
returns-clause-lists g c lists threaded there =
    let here = here_is g.T.Linked.links_of c.args.records.now c.args.at c.index-records-at.result c.links-links.result c.requires.at c.index-records-at.is c.links-links.ensures in
    let same : length c.mend_prev.new.records ≡ length c.args.records.now = length-same_map g.T.Linked.bare c.mend_prev.new.records c.args.records.now (c.mend_prev.ensures.all_else ∙ c.mend_next.ensures.all_else) in
    let ends : c.mend_prev.new.self ≡ mended_owners c.args.self.now c.args.master c.links-links.result =
    c.mend_prev.ensures.ends ∙ ap (λ (o : Owners). record o { tails = with_end c.links-links.result.next c.args.master c.links-links.result.prev o.tails }) c.mend_next.ensures.ends in
    let links : map g.T.Linked.links_of (set c.mend_prev.new.records c.args.at c.set_links.new.self) ≡ mended_links (map g.T.Linked.links_of c.args.records.now) c.args.at c.links-links.result =
    links_written g.T.Linked.links_of cleared c.mend_prev.new.records c.args.at c.index-records-at-2.result c.set_links.new.self (omega (arith, same, c.requires.at)) c.index-records-at-2.is c.set_links.ensures.links
    ∙ ap (changed_at cleared c.args.at) (c.mend_prev.ensures.links ∙ ap (changed_where (with_prev c.links-links.result.prev) c.links-links.result.next) c.mend_next.ensures.links) in
    subst (λ (o : Owners). IsThreaded o (map g.T.Linked.links_of (set c.mend_prev.new.records c.args.at c.set_links.new.self)) (unlinked lists c.args.master c.args.at)) (sym ends)
    (subst (λ l. IsThreaded (mended_owners c.args.self.now c.args.master c.links-links.result) l (unlinked lists c.args.master c.args.at)) (sym links)
    (thread_unlink c.args.self.now (map g.T.Linked.links_of c.args.records.now) lists c.args.master c.args.at c.links-links.result c.requires.master there here threaded))

pub returns-clause-all_else : goal.returns-clause-all_else
returns-clause-all_else g c =
    all_else_written g.T.Linked.bare c.mend_prev.new.records c.args.at c.index-records-at-2.result c.set_links.new.self c.index-records-at-2.is (c.set_links.ensures.all_else ∙ ap g.T.Linked.bare (sym c.index-records-at-2.is))
    ∙ c.mend_prev.ensures.all_else ∙ c.mend_next.ensures.all_else
