use Rattle.std.proofs.Common.{◌∙◌, arith}
use Rattle.dp_cfg.proofs.RunningSums.{added_more}
use Rattle.dp_cfg.proofs.sums.sums.Goals as goal

pub loop-rest-preserved : goal.loop-rest-preserved
loop-rest-preserved c =
    let read = c.in_ok-lengths.ensures in
    record {
      total = rw (c.from-inputs.ensures, c.from-outputs.ensures) (added_more _ _ _ _ c.loop-rest.rest.now _ read.value ∙ c.loop-rest.invariant.total);
      inputs_fit = omega (arith, read.behind, read.most);
      outputs_fit = omega (arith, read.behind, read.most);
    }
