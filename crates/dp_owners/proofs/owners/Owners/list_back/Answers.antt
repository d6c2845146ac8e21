use Rattle.std.proofs.Common.{◌≡◌, ℕ, ◌-◌, ◌<◌, List, [], length, map, reverse, Option, None, refl, sym, ap, subst, ◌∙◌, arith, length-append}
use Rattle.std.specs.Prelude.{IfSome}
use Rattle.std.specs.Option.{option_to_list}
use Rattle.std.proofs.lemmas.List.{length-map, length-reverse}
use Rattle.dp_owners.specs.declared.owners.TheConstants.{MOST_MASTERS}
use Rattle.dp_owners.specs.declared.links.Links.{Links}
use Rattle.dp_owners.specs.declared.owners.Owners.{Owners}
use Rattle.dp_owners.specs.Positions.{last_or}
use Rattle.dp_owners.specs.Mending.{mirrored}
use Rattle.dp_owners.specs.Threaded.{IsThreaded}
use Rattle.dp_owners.proofs.Chains.{first_reverse, chain_reverse}
use Rattle.dp_owners.proofs.Counts.{list_fits}
use Rattle.dp_owners.proofs.Walks.{IsUnderway, walk_on, walk_below, underway_on, underway_end, room_more}
use Rattle.dp_owners.proofs.owners.Owners.list_back.Goals as goal

-- a walk from the tail is one along the mirrored links
start : (owners : Owners) (links : List Links) (lists : ℕ → List ℕ) (m : ℕ) (given : List ℕ) (at : Option ℕ) (steps : ℕ) → m < MOST_MASTERS → IsThreaded owners links lists
    → given ≡ [] → at ≡ last_or None (lists m) → steps ≡ length links → IsUnderway (record { at = at; visits = length given }) (map mirrored links) (reverse (lists m)) given steps
start owners links lists m given at steps small threaded none e all =
    let few = list_fits owners links lists m small threaded in
    subst (λ xs. IsUnderway (record { at = at; visits = length xs }) (map mirrored links) (reverse (lists m)) xs steps) (sym none)
    record {
      rest = reverse (lists m);
      is = refl;
      walk = record {
        visits = refl;
        at = e ∙ sym (first_reverse (lists m) None);
        chain = chain_reverse links None (lists m) None (threaded.chains m small);
        room = omega (arith, few, length-reverse (lists m), length-map links mirrored);
      };
      soon = omega (arith, few, all, length-reverse (lists m));
    }

pub loop-step-init : goal.loop-step-init
loop-step-init g c = record {
  underway = λ lists threaded. start c.args.self.now (map g.T.Linked.links_of c.args.records.now) lists c.args.master c.new-list.result.items c.last-at.result (length c.args.records.now - 0) c.requires.master threaded
      c.new-list.ensures (c.last-at.ensures (map g.T.Linked.links_of c.args.records.now) lists threaded) (omega (arith, length-map c.args.records.now g.T.Linked.links_of));
  room = omega (arith, ap (λ (list : List ℕ). length list) c.new-list.ensures);
}

pub record_before-at-requires : goal.record_before-at-requires
record_before-at-requires g c =
    let under = c.loop-step.invariant.underway c.requires.threaded.0 c.requires.threaded.1 in
    subst (λ (n : ℕ). IfSome c.loop-step.at (λ x. x < n)) (length-map (map g.T.Linked.links_of c.args.records.now) mirrored ∙ length-map c.args.records.now g.T.Linked.links_of)
    (walk_below (map mirrored (map g.T.Linked.links_of c.args.records.now)) c.loop-step.list.items under.rest (record { at = c.loop-step.at; visits = length c.loop-step.list.items }) under.walk)

pub loop-step-preserved : goal.loop-step-preserved
loop-step-preserved g c = record {
  underway = λ lists threaded. underway_on (map mirrored (map g.T.Linked.links_of c.args.records.now)) (reverse (lists c.args.master)) c.loop-step.list.items c.push_some.new.positions.items (length c.args.records.now - c.loop-step._step) _
      (record { at = c.loop-step.at; visits = length c.loop-step.list.items }) (record { at = c.record_before-at.result; visits = length c.push_some.new.positions.items }) c.loop-step.at
      (c.loop-step.invariant.underway lists threaded) (omega arith) c.push_some.ensures
      (λ given rest walk. walk_on (map mirrored (map g.T.Linked.links_of c.args.records.now)) given rest (record { at = c.loop-step.at; visits = length c.loop-step.list.items }) (record { at = c.record_before-at.result; visits = length c.push_some.new.positions.items }) walk
      c.record_before-at.ensures (omega (arith, walk.visits, ap (λ (list : List ℕ). length list) c.push_some.ensures, length-append c.loop-step.list.items (option_to_list c.loop-step.at), length-append given (option_to_list c.loop-step.at))));
  room = room_more c.loop-step.list.items c.push_some.new.positions.items c.loop-step.at c.loop-step._step c.push_some.ensures c.loop-step.invariant.room;
}

pub returns : goal.returns
returns g c lists threaded =
    underway_end (map mirrored (map g.T.Linked.links_of c.args.records.now)) (reverse (lists c.args.master)) c.loop-step.list.items (length c.args.records.now - c.loop-step._step) (record { at = c.loop-step.at; visits = length c.loop-step.list.items })
    (c.loop-step.invariant.underway lists threaded) (omega arith)
