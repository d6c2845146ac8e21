use Rattle.std.specs.Option.{is_some}
use Rattle.std.proofs.Common.{◌≡◌, ◌<◌, ◌++◌, ◌∷◌, [], cond, length, sym, ap, ◌∙◌, arith}
use Rattle.dp_audit.specs.Journal.{taken}
use Rattle.dp_audit.specs.Lent.{event_lent}
use Rattle.dp_shared.proofs.Taken.{numbered_more, numbered_none}
use Rattle.dp_shared.proofs.shared_book.take_numbered.Goals as goal
use Rattle.dp_shared.proofs.shared_book.take_numbered.Goals.{then-is_some, else-is_some}

pub returns-after-is_some-clause-numbers : goal.returns-after-is_some-clause-numbers
returns-after-is_some-clause-numbers c =
    let book = c.args.book.now in let numbers = c.args.numbers.now.items in let place = c.take_lent_into.new.answer.place in
    let grown : length (taken book (event_lent c.args.event)).entries ≡ c.count.result = ap (λ j. length j.entries) (sym c.take_lent_into.ensures.journal) ∙ sym c.count.ensures in
    let more : length book.entries < length (taken book (event_lent c.args.event)).entries = (let before = c.count-before.ensures in let true = c.if-count-before.true in omega arith) in
    let number_is : c.if-is_some.number ≡ cond (is_some place) c.args.number 0 = elim c.if-is_some.branch [
      | then-is_some w ↦ w.number-is ∙ ap (λ b. cond b c.args.number 0) (sym w.if-is_some.true ∙ c.is_some.ensures)
      | else-is_some w ↦ w.number-is ∙ ap (λ b. cond b c.args.number 0) (sym w.if-is_some.false ∙ c.is_some.ensures)
    ] in
    c.followed_by.ensures ∙ ap (λ n. numbers ++ n ∷ []) number_is
    ∙ ap (λ more. numbers ++ more) (sym (numbered_more book (event_lent c.args.event) c.args.number place (ap (λ a. a.place) c.take_lent_into.ensures.answer) more))

pub returns-else-count-before-clause-numbers : goal.returns-else-count-before-clause-numbers
returns-else-count-before-clause-numbers c =
    let book = c.args.book.now in
    let grown : length (taken book (event_lent c.args.event)).entries ≡ c.count.result = ap (λ j. length j.entries) (sym c.take_lent_into.ensures.journal) ∙ sym c.count.ensures in
    numbered_none book (event_lent c.args.event) c.args.numbers.now.items c.args.number
    (let before = c.count-before.ensures in let no_more = c.if-count-before.false in omega arith)
