use Rattle.std.proofs.Common.{◌≡◌, ℕ, [], ◌∷◌, ◌++◌, length, map, Option, Some, None, refl, subst, ◌∙◌}
use Rattle.std.specs.Option.{option_to_list}
use Rattle.dp_owners.specs.Walk.{IsWalk}
use Rattle.test_lines.specs.declared.card_lists.Card.{Card}
use Rattle.test_lines.proofs.card_lists.three_steps_along.Goals as goal

pub next-first-requires-clause-walk : goal.next-first-requires-clause-walk
next-first-requires-clause-walk c = (_, _, c.over-cursor.ensures _ c.requires.threaded.0 c.requires.threaded.1)

pub next-second-requires-clause-walk : goal.next-second-requires-clause-walk
next-second-requires-clause-walk c = (_, _, (c.next-first.ensures _ _ (c.over-cursor.ensures _ c.requires.threaded.0 c.requires.threaded.1)).1)

pub next-third-requires-clause-walk : goal.next-third-requires-clause-walk
next-third-requires-clause-walk c = (_, _, (c.next-second.ensures _ _ (c.next-first.ensures _ _ (c.over-cursor.ensures _ c.requires.threaded.0 c.requires.threaded.1)).1).1)

steps_are : (a b d : Option ℕ) (at n : ℕ) → a ≡ Some at → b ≡ None → d ≡ None → n ≡ length ((([] ++ option_to_list a) ++ option_to_list b) ++ option_to_list d)
    → (a ∷ b ∷ d ∷ [] ≡ Some at ∷ None ∷ None ∷ []) × (n ≡ 1)
steps_are a b d at n one two three count =
    let given : length ((([] ++ option_to_list a) ++ option_to_list b) ++ option_to_list d) ≡ 1 =
    rw one (rw two (rw three refl)) in
    (cc, count ∙ given)

pub returns : goal.returns
returns c lists at threaded is =
    let start = subst (λ rest. IsWalk c.over-cursor.result (map (λ (card : Card). card.links) c.args.cards.now) [] rest) is (c.over-cursor.ensures _ lists threaded) in
    let one = c.next-first.ensures [] (at ∷ []) start in
    let two = c.next-second.ensures _ [] one.1 in
    let three = c.next-third.ensures _ [] two.1 in
    steps_are c.next-first.result c.next-second.result c.next-third.result at _ one.0 two.0 three.0 (c.visits.ensures _ _ [] three.1)
