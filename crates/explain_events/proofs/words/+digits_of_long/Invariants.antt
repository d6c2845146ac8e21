use Rattle.explain_events.proofs.words.+digits_of_long.Given as goal

abbrev pub decreases-digits_of_long : goal.decreases-digits_of_long
decreases-digits_of_long l = l.number
