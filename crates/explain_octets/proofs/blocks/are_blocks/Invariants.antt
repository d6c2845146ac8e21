use Rattle.std.proofs.Common.{◌≡◌, length}
use Rattle.std.specs.Prelude.{is_some}
use Rattle.explain_octets.specs.Blocks.{blocks_of}
use Rattle.explain_octets.proofs.blocks.are_blocks.Given as goal

abbrev pub invariant-loop-behind : goal.invariant-loop-behind
invariant-loop-behind l = is_some (blocks_of l.fn.octets) ≡ is_some (blocks_of l.rest)

abbrev pub decreases-loop-behind : goal.decreases-loop-behind
decreases-loop-behind l = length l.rest
