use Rattle.std.proofs.Common.{Option, sym, ap, subst, ◌∙◌}
use Rattle.std.specs.Prelude.{IfSome}
use Rattle.embedded_rack.specs.RackCalls.{EmbeddedRack}
use Rattle.embedded_rack.specs.RackReasons.{ExplainsEntry}
use Rattle.rackd_library.specs.Why.{IsWhy, WhyAnswer, why_answer}
use Rattle.rackd_library.proofs.reasons.rackd_why.Goals as goal

pub returns-clause-why : goal.returns-clause-why
returns-clause-why c =
    let answer : WhyAnswer = record { done = c.set_reason.result; count = c.set_reason.new.count; facts = c.set_reason.new.facts; room = c.set_reason.new.sentence } in
    subst (λ (rack : Option EmbeddedRack). IfSome rack (λ opened. IsWhy opened c.args.line c.args.place c.args.sentence.now answer)) (sym c.take-opened.ensures.rack) (
      c.explain-explained.result,
      c.explain-explained.new.sentence.items,
      subst (λ opened. ExplainsEntry opened c.args.line c.args.place c.explain-explained.new.sentence.items c.explain-explained.result) c.deref.ensures c.explain-explained.ensures,
      c.set_reason.ensures ∙ ap (λ text. why_answer c.explain-explained.result text c.args.sentence.now) c.as_slice.ensures.value,
    )
