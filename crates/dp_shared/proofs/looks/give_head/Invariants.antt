use Rattle.std.proofs.Common.{[], ◌∷◌, length}
use Rattle.dp_shared.specs.Content.{head_if, world_now}
use Rattle.dp_shared.specs.Passes.{look_by, pass_in, with_look}
use Rattle.dp_shared.specs.declared.line_view.Question.TheVariants as asks
use Rattle.dp_shared.specs.declared.line_view.Answer.TheVariants as answers
use Rattle.dp_shared.proofs.looks.give_head.Given as goal

abbrev pub ghosts-give : goal.ghosts-give
ghosts-give a = record {
  next = with_look (pass_in a.seat.now.me.0.passes) (look_by (pass_in a.seat.now.me.0.passes) (asks.Head a.about.now) (length a.shared_book.book.entries)
      (answers.Head (head_if a.about.now (world_now a.shared_book) a.shared_book.book.entries))) ∷ [];
}
