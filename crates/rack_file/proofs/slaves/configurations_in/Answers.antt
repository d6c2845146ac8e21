use Rattle.std.proofs.Common.{◌≡◌, map, get_or, arith}
use Rattle.std.proofs.lemmas.Grind.{common_steps}
use Rattle.std.proofs.lemmas.Result.{err_from_is_err_and}
use Rattle.toml.specs.View.{view}
use Rattle.rack_file.specs.Gives.{wrong}
use Rattle.rack_file.specs.TomlKeys.{each_of, each_from}
use Rattle.rack_file.specs.RackFile.{configuration_of, configurations_of}
use Rattle.rack_file.proofs.Each.{each_more, each_stops}
use Rattle.rack_file.proofs.slaves.configurations_in.Goals as goal

pub loop-value-init : goal.loop-value-init
unfolding each_from
loop-value-init c = (rw c.new-cfgs.ensures, rw c.new-cfgs.ensures)

pub returns-in_err-configuration_in : goal.returns-in_err-configuration_in
unfolding configurations_of
returns-in_err-configuration_in c =
    let values = c.in_ok-values.values.now in
    let p = err_from_is_err_and c.from_residual-in_err-configuration_in.result c.from_residual-in_err-configuration_in.ensures.1 in
    let is : get_or values c.loop-value.value-index c.value-item.result ≡ c.value-item.result = grind (arith, common_steps) in
    let all : configurations_of (view c.args.value.now) ≡ each_of configuration_of (map view values) = grind (arith, common_steps) in
    rw (p.1, p.2, all) (each_stops (λ position. configuration_of) values c.loop-value.value-index c.value-item.result c.loop-value.cfgs.items (wrong _) c.loop-value-test.true is c.loop-value.invariant.0 c.in_err-configuration_in.ensures)

pub loop-value-preserved : goal.loop-value-preserved
loop-value-preserved c =
    let values = c.in_ok-values.values.now in
    let is : get_or values c.loop-value.value-index c.value-item.result ≡ c.value-item.result = grind (arith, common_steps) in (
      rw c.push.ensures.items (each_more (λ position. configuration_of) values c.loop-value.value-index c.value-item.result c.loop-value.cfgs.items c.in_ok-configuration_in.field-0 c.loop-value-test.true is c.loop-value.invariant.0 c.in_ok-configuration_in.ensures),
      grind (arith, common_steps),
    )
