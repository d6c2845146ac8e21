use Rattle.std.proofs.Common.{◌≡◌, get_or, Some, sym, arith}
use Rattle.std.proofs.lemmas.Grind.{common_steps}
use Rattle.std.proofs.lemmas.Result.{err_from_is_err_and}
use Rattle.rack_file.specs.TomlKeys.{number_from, each_from}
use Rattle.rack_file.proofs.Each.{each_more, each_stops}
use Rattle.rack_file.proofs.slaves.addresses_in.Goals as goal

pub loop-value-init : goal.loop-value-init
unfolding each_from
loop-value-init c = (rw c.new-masters.ensures, rw c.new-masters.ensures)

pub returns-in_err-number_in : goal.returns-in_err-number_in
returns-in_err-number_in c =
    let p = err_from_is_err_and c.from_residual.result c.from_residual.ensures.1 in
    let is : get_or c.args.values.now c.loop-value.value-index c.value-item.result ≡ c.value-item.result = grind (arith, common_steps) in
    let ends = each_stops (λ position. number_from 0 255) c.args.values.now c.loop-value.value-index c.value-item.result c.loop-value.masters.items (Some _) c.loop-value-test.true is c.loop-value.invariant.0 (sym c.in_err-number_in.ensures.number) in
    rw (p.1, p.2) (sym ends)

pub loop-value-preserved : goal.loop-value-preserved
loop-value-preserved c =
    let is : get_or c.args.values.now c.loop-value.value-index c.value-item.result ≡ c.value-item.result = grind (arith, common_steps) in (
      rw c.push.ensures.items (each_more (λ position. number_from 0 255) c.args.values.now c.loop-value.value-index c.value-item.result c.loop-value.masters.items c.in_ok-number_in.field-0 c.loop-value-test.true is c.loop-value.invariant.0 (sym c.in_ok-number_in.ensures.number)),
      grind (arith, common_steps),
    )
