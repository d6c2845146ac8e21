use Rattle.std.proofs.Common.{◌≡◌, ◌<◌, length, get_or, map, set, Some, None, ℕ, refl, sym, ap, subst, ◌∙◌, arith, length-set}
use Rattle.std.specs.Prelude.{IfSome}
use Rattle.std.proofs.lemmas.List.{length-map}
use Rattle.dp_owners.specs.declared.owners.Owners.{Owners}
use Rattle.dp_owners.specs.Mending.{changed_at, changed_where, with_next}
use Rattle.dp_owners.specs.Threaded.{IsThreaded, appended}
use Rattle.dp_owners.proofs.Mending.{get_there, links_written, all_else_written}
use Rattle.dp_owners.proofs.Appends.{pushed, thread_append, tail_below}
use Rattle.dp_owners.proofs.owners.Owners.append.Goals as goal

pub mend_next-requires-clause-prev : goal.mend_next-requires-clause-prev
mend_next-requires-clause-prev g c =
    let same : length (map g.T.Linked.links_of c.args.records.now) ≡ length (set c.args.records.now c.args.at c.set_links.new.self) = length-map c.args.records.now g.T.Linked.links_of ∙ sym (length-set c.args.records.now c.args.at c.set_links.new.self) in
    subst (λ (n : ℕ). IfSome (get_or c.args.self.now.tails c.args.master None) (λ x. x < n)) same
    (tail_below c.args.self.now (map g.T.Linked.links_of c.args.records.now) c.requires.free.0 c.args.master c.requires.master c.requires.free.1.0)

pub returns-clause-lists : goal.returns-clause-lists
returns-clause-lists g c lists threaded free =
    let here = get_there (map g.T.Linked.links_of c.args.records.now) c.args.at (omega (arith, length-map c.args.records.now g.T.Linked.links_of, c.requires.at)) in
    let after : map g.T.Linked.links_of c.mend_next.new.records ≡ changed_where (with_next (Some c.args.at)) (get_or c.args.self.now.tails c.args.master None) (changed_at (pushed (get_or c.args.self.now.tails c.args.master None)) c.args.at (map g.T.Linked.links_of c.args.records.now)) =
    c.mend_next.ensures.links ∙ ap (changed_where (with_next (Some c.args.at)) (get_or c.args.self.now.tails c.args.master None))
    (links_written g.T.Linked.links_of (pushed (get_or c.args.self.now.tails c.args.master None)) c.args.records.now c.args.at c.index-records-at.result c.set_links.new.self c.requires.at c.index-records-at.is c.set_links.ensures.links) in
    subst (λ links. IsThreaded (record { heads = c.mend_next.new.self.heads; tails = set c.mend_next.new.self.tails c.args.master (Some c.args.at) }) links (appended lists c.args.master c.args.at)) (sym after)
    (subst (λ (o : Owners). IsThreaded (record { heads = o.heads; tails = set o.tails c.args.master (Some c.args.at) }) (changed_where (with_next (Some c.args.at)) (get_or c.args.self.now.tails c.args.master None) (changed_at (pushed (get_or c.args.self.now.tails c.args.master None)) c.args.at (map g.T.Linked.links_of c.args.records.now))) (appended lists c.args.master c.args.at)) (sym c.mend_next.ensures.ends)
    (thread_append c.args.self.now (map g.T.Linked.links_of c.args.records.now) lists c.args.master c.args.at (get_or c.args.self.now.tails c.args.master None) here.0 c.requires.master here.1 refl free threaded))

pub returns-clause-all_else : goal.returns-clause-all_else
returns-clause-all_else g c =
    c.mend_next.ensures.all_else ∙ all_else_written g.T.Linked.bare c.args.records.now c.args.at c.index-records-at.result c.set_links.new.self c.index-records-at.is (c.set_links.ensures.all_else ∙ ap g.T.Linked.bare (sym c.index-records-at.is))
