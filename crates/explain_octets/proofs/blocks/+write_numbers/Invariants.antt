use Rattle.std.proofs.Common.{◌*◌, ◌-◌, length}
use Rattle.explain_octets.proofs.blocks.+write_numbers.Given as goal

abbrev pub decreases-write_numbers : goal.decreases-write_numbers
decreases-write_numbers g l = length l.octets.now * 8 - l.from
