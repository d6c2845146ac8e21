use Rattle.std.proofs.Common.{rules, ◌≡◌, ◌∷◌, ◌++◌, [], None, Some, List, subst, sym, ◌∙◌, append_assoc, ap}
use Rattle.std.proofs.lemmas.List.{append-nil, nil_from_length}
use Rattle.std.proofs.lemmas.List.Sorted.{IsNonDecreasingBy-from_sort_by_key}
use Rattle.rack_file.specs.declared.rack.RackLine.{RackLine}
use Rattle.serve_lines.specs.ServedLines.{all_served, number_of}
use Rattle.serve_lines.proofs.WithPorts.{listed, none_served, one_more_served}
use Rattle.serve_lines.proofs.served_line.lines_to_serve.Goals as goal

pub returns-in_default : goal.returns-in_default
returns-in_default c =
    let rest : c.loop-line.line-iterator.rest.items ≡ c.in-Some.line ∷ c.next.new.self.rest.items = search rules in
    let whole = ap (λ (xs : List RackLine). c.loop-line.yielded ++ xs) (sym rest) ∙ c.loop-line.invariant.2 in
    subst (λ xs. all_served xs ≡ None) whole
    (none_served c.loop-line.yielded c.in-Some.line c.next.new.self.rest.items c.loop-line.served.items c.loop-line.invariant.3 (search rules))

pub loop-line-preserved : goal.loop-line-preserved
loop-line-preserved c =
    let rest : c.loop-line.line-iterator.rest.items ≡ c.in-Some.line ∷ c.next.new.self.rest.items = search rules in (
      tt,
      tt,
      append_assoc c.loop-line.yielded (c.in-Some.line ∷ []) c.next.new.self.rest.items ∙ ap (λ (xs : List RackLine). c.loop-line.yielded ++ xs) (sym rest) ∙ c.loop-line.invariant.2,
      one_more_served c.loop-line.yielded c.in-Some.line c.loop-line.served.items c.in-Some-with_ports.line c.loop-line.invariant.3 (search rules) ∙ ap listed (sym (search rules)),
    )

pub returns : goal.returns
returns c = (
  c.loop-line.served.items,
  (let none : c.loop-line.line-iterator.rest.items ≡ [] = nil_from_length c.loop-line.line-iterator.rest.items (search rules) in
      let whole = sym (append-nil c.loop-line.yielded) ∙ ap (λ (xs : List RackLine). c.loop-line.yielded ++ xs) (sym none) ∙ c.loop-line.invariant.2 in
      subst (λ xs. all_served xs ≡ Some c.loop-line.served.items) whole c.loop-line.invariant.3),
  record {
    same = c.sort_unstable_by_key.ensures.permutation;
    ascend = IsNonDecreasingBy-from_sort_by_key number_of _ c.sort_unstable_by_key.ensures.sorted (λ a r q k. search rules);
  },
)
