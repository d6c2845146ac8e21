use Rattle.std.proofs.Common.{◌≡◌, ◌≤◌, length, ◌+◌, ◌*◌}
use Rattle.std.specs.Option.{option_map}
use Rattle.dp_cfg.specs.Reading.{split_of}
use Rattle.dp_cfg.specs.PrivateWords.{sums_of}
use Rattle.dp_cfg.proofs.RunningSums.{added}
use Rattle.dp_cfg.proofs.sums.sums.Given as goal

-- the sums so far and those of the rest are those of all, and an identifier has at most 128 of each
abbrev pub invariant-loop-rest : goal.invariant-loop-rest
invariant-loop-rest l = record {
  total : option_map (added l.inputs l.outputs) (split_of l.rest) ≡ option_map sums_of (split_of l.octets);
  inputs_fit : l.inputs + 128 * length l.rest ≤ 31232;
  outputs_fit : l.outputs + 128 * length l.rest ≤ 31232;
}

abbrev pub decreases-loop-rest : goal.decreases-loop-rest
decreases-loop-rest l = length l.rest
