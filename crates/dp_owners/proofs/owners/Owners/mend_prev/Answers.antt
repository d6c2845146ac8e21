use Rattle.std.proofs.Common.{◌<◌, length, map, Some, sym, ap, ◌∙◌, arith}
use Rattle.dp_owners.specs.Mending.{changed_where, with_prev}
use Rattle.dp_owners.proofs.Mending.{links_written, all_else_written}
use Rattle.dp_owners.proofs.owners.Owners.mend_prev.Goals as goal

pub returns-in-Some-clause-links : goal.returns-in-Some-clause-links
returns-in-Some-clause-links g c =
    let below : c.in-Some.next < length c.args.records.now = rw c.in-Some.is at c.requires.next in
    links_written g.T.Linked.links_of (with_prev c.args.prev) c.args.records.now c.from.result c.index-records-from.result c.set_links.new.self (omega (arith, c.from.ensures)) c.index-records-from.is
    (c.set_links.ensures.links ∙ ap (with_prev c.args.prev) (c.links-links.ensures ∙ ap g.T.Linked.links_of (sym c.index-records-from.is)))
    ∙ sym (ap (λ at. changed_where (with_prev c.args.prev) at (map g.T.Linked.links_of c.args.records.now)) (c.in-Some.is ∙ ap Some (sym c.from.ensures)))

pub returns-in-Some-clause-all_else : goal.returns-in-Some-clause-all_else
returns-in-Some-clause-all_else g c =
    all_else_written g.T.Linked.bare c.args.records.now c.from.result c.index-records-from.result c.set_links.new.self c.index-records-from.is (c.set_links.ensures.all_else ∙ ap g.T.Linked.bare (sym c.index-records-from.is))
