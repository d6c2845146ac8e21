use Rattle.std.proofs.Common.{length}
use Rattle.test_lines.proofs.typed_values.+prove_slaves.Given as goal

abbrev pub decreases-prove_slaves : goal.decreases-prove_slaves
decreases-prove_slaves l = length l.slaves.now
