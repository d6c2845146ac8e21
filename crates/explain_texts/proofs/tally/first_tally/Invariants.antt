use Rattle.std.proofs.Common.{◌≡◌, take}
use Rattle.explain_texts.specs.Tallies.{masters_tally}
use Rattle.explain_texts.proofs.tally.first_tally.Given as goal

abbrev pub invariant-loop-master : goal.invariant-loop-master
invariant-loop-master l = l.tally.items ≡ masters_tally (take l.master-index l.masters)
