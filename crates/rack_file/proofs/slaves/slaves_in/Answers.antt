use Rattle.std.proofs.Common.{◌≡◌, ◌++◌, ◌∷◌, [], get_or, arith}
use Rattle.std.proofs.lemmas.Grind.{common_steps}
use Rattle.std.proofs.lemmas.Result.{err_from_is_err_and}
use Rattle.rack_file.specs.Gives.{reported}
use Rattle.rack_file.specs.TomlKeys.{each_from}
use Rattle.rack_file.specs.RackFile.{slave_at}
use Rattle.rack_file.proofs.Each.{each_more, each_stops}
use Rattle.rack_file.proofs.slaves.slaves_in.Goals as goal

pub loop-index-init : goal.loop-index-init
unfolding each_from
loop-index-init c = rw c.new-slaves.ensures.items

pub returns-in_err-slave : goal.returns-in_err-slave
returns-in_err-slave c =
    let p = err_from_is_err_and c.from_residual.result c.from_residual.ensures.1 in
    let is : get_or c.args.values.now c.loop-index.index c.index-values-index.result ≡ c.index-values-index.result = grind (arith, common_steps) in
    rw (p.1, p.2) (each_stops (slave_at c.args.line) c.args.values.now c.loop-index.index c.index-values-index.result c.loop-index.slaves.items (reported _) c.loop-index-test.true is c.loop-index.invariant c.in_err-slave.ensures)

pub loop-index-preserved : goal.loop-index-preserved
loop-index-preserved c =
    let is : get_or c.args.values.now c.loop-index.index c.index-values-index.result ≡ c.index-values-index.result = grind (arith, common_steps) in
    let items : c.push.new.self.items ≡ c.loop-index.slaves.items ++ c.in_ok-slave.slave ∷ [] = grind (arith, common_steps) in
    rw items (each_more (slave_at c.args.line) c.args.values.now c.loop-index.index c.index-values-index.result c.loop-index.slaves.items c.in_ok-slave.slave c.loop-index-test.true is c.loop-index.invariant c.in_ok-slave.ensures)
