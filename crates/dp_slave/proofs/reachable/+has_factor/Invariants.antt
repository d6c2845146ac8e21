use Rattle.dp_slave.proofs.reachable.+has_factor.Given as goal

abbrev pub decreases-has_factor : goal.decreases-has_factor
decreases-has_factor l = l.most
