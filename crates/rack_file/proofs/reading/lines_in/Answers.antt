use Rattle.std.proofs.Common.{◌≡◌, ◌++◌, ◌∷◌, [], map, get_or, arith}
use Rattle.std.proofs.lemmas.Grind.{common_steps}
use Rattle.std.proofs.lemmas.List.{map_push}
use Rattle.std.proofs.lemmas.Result.{err_from_is_err_and}
use Rattle.rack_file.specs.Rack.{line_described}
use Rattle.rack_file.specs.Gives.{reported}
use Rattle.rack_file.specs.TomlKeys.{each_from}
use Rattle.rack_file.specs.RackFile.{line_at}
use Rattle.rack_file.proofs.Each.{each_more, each_stops}
use Rattle.rack_file.proofs.reading.lines_in.Goals as goal

pub loop-index-init : goal.loop-index-init
unfolding each_from
loop-index-init c = (rw c.new-lines.ensures.items, rw c.new-lines.ensures.items)

pub returns-in_err-line-clause-lines : goal.returns-in_err-line-clause-lines
returns-in_err-line-clause-lines c =
    let p = err_from_is_err_and c.from_residual.result c.from_residual.ensures.1 in
    let is : get_or c.args.values.now c.loop-index.index c.index-values-index.result ≡ c.index-values-index.result = grind (arith, common_steps) in
    rw (p.1, p.2) (each_stops line_at c.args.values.now c.loop-index.index c.index-values-index.result (map line_described c.loop-index.lines.items) (reported _) c.loop-index-test.true is c.loop-index.invariant.0 c.in_err-line.ensures)

pub loop-index-preserved : goal.loop-index-preserved
loop-index-preserved c =
    let is : get_or c.args.values.now c.loop-index.index c.index-values-index.result ≡ c.index-values-index.result = grind (arith, common_steps) in
    let items : c.push.new.self.items ≡ c.loop-index.lines.items ++ c.in_ok-line.line ∷ [] = grind (arith, common_steps) in (
      rw (items, map_push line_described c.loop-index.lines.items c.in_ok-line.line) (each_more line_at c.args.values.now c.loop-index.index c.index-values-index.result (map line_described c.loop-index.lines.items) (line_described c.in_ok-line.line) c.loop-index-test.true is c.loop-index.invariant.0 c.in_ok-line.ensures),
      grind (arith, common_steps),
    )
