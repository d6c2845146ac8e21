use Rattle.std.proofs.Common.{ap}
use Rattle.dp_shared.proofs.line_lock.Line.sit_and_take_content.Goals as goal

pub returns-clause-of_line : goal.returns-clause-of_line
returns-clause-of_line g c = c.take_content-shared_book.ensures.took.taken.of_line c.args.self.now.table.shared.key (ap (λ m. m.0.line) c.sit-seat.ensures.blank)
