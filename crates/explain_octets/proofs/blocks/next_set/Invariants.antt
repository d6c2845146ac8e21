use Rattle.std.proofs.Common.{◌≡◌}
use Rattle.explain_octets.specs.PrivateWords.{set_from}
use Rattle.explain_octets.proofs.blocks.next_set.Given as goal

abbrev pub invariant-loop-number : goal.invariant-loop-number
invariant-loop-number l = set_from l.octets l.fn.from ≡ set_from l.octets l.number
