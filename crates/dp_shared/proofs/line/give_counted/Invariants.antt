use Rattle.dp_shared.proofs.line.give_counted.Given as goal

abbrev pub ghosts-give : goal.ghosts-give
ghosts-give a = record { next = a.seat.now.me.0.passes }
