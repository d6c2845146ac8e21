use Rattle.std.proofs.Common.{length}
use Rattle.test_lines.proofs.typed_values.+prove_configurations.Given as goal

abbrev pub decreases-prove_configurations : goal.decreases-prove_configurations
decreases-prove_configurations l = length l.configurations.now
