use Rattle.std.proofs.Common.{◌∙◌, inl, inr, sym, arith}
use Rattle.dp_cfg.proofs.Readings.{counted, counted_fits, counted_above}
use Rattle.dp_cfg.proofs.sums.lengths_of.Goals as goal
use Rattle.dp_cfg.proofs.sums.lengths_of.Goals.{then-inputs-gt-MOST-via-then-inputs-gt-MOST, then-inputs-gt-MOST-via-else-inputs-gt-MOST+then-outputs-gt-MOST}

pub returns-then-inputs-gt-MOST : goal.returns-then-inputs-gt-MOST
returns-then-inputs-gt-MOST c =
    let e = sym c.in_ok-inputs.ensures.ok_part ∙ c.sums.ensures in
    rw (counted_above c.args.octets.now _ _ e (elim c.then-inputs-gt-MOST.branch [
      | then-inputs-gt-MOST-via-then-inputs-gt-MOST w ↦ inl (omega arith)
      | then-inputs-gt-MOST-via-else-inputs-gt-MOST+then-outputs-gt-MOST w ↦ inr (omega arith)
    ]))

pub returns : goal.returns
returns c =
    let e = sym c.in_ok-inputs.ensures.ok_part ∙ c.sums.ensures in
    let h = counted c.args.octets.now _ _ e in
    rw (c.new.ensures, h.0, h.1, counted_fits c.args.octets.now _ _ e (omega arith) (omega arith))
