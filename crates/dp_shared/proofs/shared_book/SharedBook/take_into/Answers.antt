use Rattle.std.proofs.Common.{length, sym, ap, ◌∙◌}
use Rattle.dp_audit.specs.Lent.{event_lent}
use Rattle.dp_audit.specs.Times.{time_of}
use Rattle.std.proofs.Common.{None}
use Rattle.dp_shared.proofs.Taken.{numbers_long, time_then}
use Rattle.dp_shared.proofs.shared_book.SharedBook.take_into.Goals as goal

pub invariant_of-self : goal.invariant_of-self
invariant_of-self c = let took = c.take_numbered.ensures in let before = c.deref_mut.result.now in let value = c.deref_mut.ensures.value in (
  ap length took.numbers ∙ numbers_long before (event_lent c.args.event) c.self.inside.numbers.items c.args.number (c.self.invariant.0 ∙ ap (λ j. length j.entries) (sym value)) ∙ ap (λ j. length j.entries) (sym took.book),
  c.time_with-self-inside.ensures ∙ time_then c.self.inside.time before (event_lent c.args.event) c.take_numbered.new.answer.place (ap (λ a. a.place) took.answer) (c.self.invariant.1 ∙ ap (λ j. time_of None j.entries) (sym value))
      ∙ ap (λ j. time_of None j.entries) (sym took.book),
)
