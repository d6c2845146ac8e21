use Rattle.std.proofs.Common.{◌≡◌, rules, refl}
use Rattle.dp_cfg.specs.Reading.{fault_of}
use Rattle.dp_cfg.proofs.Readings.{ok_clause, cut_clause, long_clause, right_from}
use Rattle.dp_cfg.proofs.ids.CfgIds.parse.Goals as goal

pub returns-in_err-lengths-clause-computed : goal.returns-in_err-lengths-clause-computed
returns-in_err-lengths-clause-computed c = search rules

pub returns-in_err-lengths-clause-ok : goal.returns-in_err-lengths-clause-ok
returns-in_err-lengths-clause-ok c = ok_clause c.args.octets.now c.from_residual.result (returns-in_err-lengths-clause-computed c)

pub returns-in_err-lengths-clause-cut : goal.returns-in_err-lengths-clause-cut
returns-in_err-lengths-clause-cut c = cut_clause c.args.octets.now c.from_residual.result (returns-in_err-lengths-clause-computed c)

pub returns-in_err-lengths-clause-too_long : goal.returns-in_err-lengths-clause-too_long
returns-in_err-lengths-clause-too_long c = long_clause c.args.octets.now c.from_residual.result (returns-in_err-lengths-clause-computed c)

pub invariant_of-result : goal.invariant_of-result
invariant_of-result c =
    let kept : c.unwrap.result.items ≡ c.args.octets.now = search rules in
    let right = right_from (fault_of c.args.octets.now) _ _ c.in_ok-lengths.ensures in
    rw (kept, right.1) (record {
      is_read = rw right.0;
      inputs_are = refl;
      outputs_are = refl;
    })

pub returns-clause-computed : goal.returns-clause-computed
returns-clause-computed c =
    let kept : c.unwrap.result.items ≡ c.args.octets.now = search rules in
    let right = right_from (fault_of c.args.octets.now) _ _ c.in_ok-lengths.ensures in
    rw (kept, right.0)

pub returns-clause-ok : goal.returns-clause-ok
returns-clause-ok c = ok_clause c.args.octets.now _ (returns-clause-computed c)

pub returns-clause-cut : goal.returns-clause-cut
returns-clause-cut c = cut_clause c.args.octets.now _ (returns-clause-computed c)

pub returns-clause-too_long : goal.returns-clause-too_long
returns-clause-too_long c = long_clause c.args.octets.now _ (returns-clause-computed c)
