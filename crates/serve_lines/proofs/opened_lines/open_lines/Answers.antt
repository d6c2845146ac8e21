use Rattle.std.proofs.Common.{rules, ◌≡◌, ◌∷◌, ◌++◌, [], List, None, map, sym, ap, ◌∙◌, append_assoc}
use Rattle.std.proofs.lemmas.List.{append-nil, map-append, nil_from_length}
use Rattle.std.proofs.lemmas.List.Elements.{All-head, All-rest, All-same}
use Rattle.dp_line.specs.World.{description_of, opening_fault}
use Rattle.serve_lines.specs.declared.served_line.ServedLine.{ServedLine}
use Rattle.serve_lines.specs.ServedLines.{as_opened}
use Rattle.serve_lines.proofs.Opening.{opened_more}
use Rattle.serve_lines.proofs.opened_lines.open_lines.Goals as goal

pub loop-line-preserved : goal.loop-line-preserved
loop-line-preserved c =
    let rest : c.loop-line.line-iterator.rest.items ≡ c.in-Some.line ∷ c.next.new.self.rest.items = search rules in
    let Fits : ServedLine → Type 0 = λ line. opening_fault (description_of line.spec) ≡ None in (
      tt,
      tt,
      append_assoc c.loop-line.yielded (c.in-Some.line ∷ []) c.next.new.self.rest.items ∙ ap (λ ls. c.loop-line.yielded ++ ls) (sym rest) ∙ c.loop-line.invariant.2,
      All-rest Fits c.in-Some.line c.next.new.self.rest.items c.loop-line.line-iterator.rest.items rest c.loop-line.invariant.3,
      c.in_ok-opened-2.ensures.lines ∙ ap (λ ls. ls ++ as_opened c.args.are_endless c.in-Some.line ∷ []) c.loop-line.invariant.4
          ∙ sym (map-append (as_opened c.args.are_endless) c.loop-line.yielded (c.in-Some.line ∷ [])),
      opened_more c.loop-line.opened.lines.items c.in_ok-opened-2.opened.lines.items (as_opened c.args.are_endless c.in-Some.line) c.loop-line.opened.ports.items c.in_ok-opened-2.opened.ports.items
          c.in_ok-opened-2.ensures.lines c.loop-line.invariant.5 c.in_ok-opened-2.ensures.line,
      search rules,
      search rules,
    )

pub with_line-requires-clause-accepted : goal.with_line-requires-clause-accepted
with_line-requires-clause-accepted c =
    let rest : c.loop-line.line-iterator.rest.items ≡ c.in-Some.line ∷ c.next.new.self.rest.items = search rules in
    let Fits : ServedLine → Type 0 = λ line. opening_fault (description_of line.spec) ≡ None in
    All-head Fits c.in-Some.line c.next.new.self.rest.items (All-same Fits (c.in-Some.line ∷ c.next.new.self.rest.items) c.loop-line.line-iterator.rest.items (sym rest) c.loop-line.invariant.3)

pub returns-clause-lines : goal.returns-clause-lines
returns-clause-lines c =
    let none : c.loop-line.line-iterator.rest.items ≡ [] = nil_from_length c.loop-line.line-iterator.rest.items (search rules) in
    let whole = sym (append-nil c.loop-line.yielded) ∙ ap (λ (ls : List ServedLine). c.loop-line.yielded ++ ls) (sym none) ∙ c.loop-line.invariant.2 in
    c.loop-line.invariant.4 ∙ ap (map (as_opened c.args.are_endless)) whole
