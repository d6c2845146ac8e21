use Rattle.std.proofs.Common.{arith}
use Rattle.std.proofs.lemmas.Grind.{common_steps}
use Rattle.explain_octets.proofs.words.HexDisplay.fmt.Goals as goal

pub loop-octet-preserved : goal.loop-octet-preserved
loop-octet-preserved g c = grind (arith, common_steps)

pub returns-after-loop-octet-clause-writes : goal.returns-after-loop-octet-clause-writes
returns-after-loop-octet-clause-writes g c = grind (arith, common_steps)
