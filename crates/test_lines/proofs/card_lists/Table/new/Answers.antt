use Rattle.std.proofs.Common.{◌≡◌, ℕ, zero, suc, [], map, replicate, ap}
use Rattle.dp_owners.specs.Chain.{HaveNoLinks, no_links}
use Rattle.test_lines.specs.declared.card_lists.Card.{Card}
use Rattle.test_lines.proofs.card_lists.Table.new.Goals as goal

links_of : {card fresh : Card} → card ≡ fresh → card.links ≡ fresh.links
links_of same = ap (λ (card : Card). card.links) same

none_in : (count : ℕ) (card : Card) → card.links ≡ no_links → HaveNoLinks (map (λ (card : Card). card.links) (replicate count card))
none_in zero card none = tt
none_in (suc count) card none = (none, none_in count card none)

pub invariant_of-result : goal.invariant_of-result
invariant_of-result c =
    (λ player. [], c.new.ensures _ (none_in 64 c.fresh_card.result (links_of c.fresh_card.ensures)))
