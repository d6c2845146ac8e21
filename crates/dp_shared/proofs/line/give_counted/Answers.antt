use Rattle.std.proofs.Common.{ap, ◌∙◌}
use Rattle.dp_shared.proofs.Goes.{goes_same}
use Rattle.dp_shared.proofs.line.give_counted.Goals as goal

pub give-requires-clause-goes : goal.give-requires-clause-goes
give-requires-clause-goes c = let h = c.requires.less in let e = h.3 in (
  h.0,
  h.1,
  h.2,
  goes_same h.0 c.args.shared_book (ap (λ z. z.book.number) e) (ap (λ z. z.book.opening) e) (ap (λ z. z.book.room) e) (ap (λ z. z.book.entries) e) (ap (λ z. z.numbers) e) (ap (λ z. z.last) e) c.prove_legal.ensures.history
      (λ halted. ap (λ z. z.book.state.world.halted) e ∙ halted) c.args.seat.now.me.0.passes,
)
