use Rattle.std.proofs.Common.{◌≡◌, ◌==◌, ◌∙◌, map, rules, tests}
use Rattle.std.specs.List.{list_any}
use Rattle.std.proofs.lemmas.Iterator.{YieldsList-from_slice}
use Rattle.std.proofs.lemmas.Iterator.Search.{any_from_yields_List}
use Rattle.rack_file.specs.Rack.{line_described}
use Rattle.rack_file.proofs.Folds.{list_any-map}
use Rattle.rack_file.proofs.reading.has_number.Goals as goal

pub returns : goal.returns
returns c =
    let number = c.args.number in
    let lines = c.args.lines.now in
    let here : c.any.result ≡ list_any (λ line. number == line.spec.number) lines =
    any_from_yields_List _ _ _ c.any.result c.any.ensures.ran (YieldsList-from_slice lines cc) (λ x b q k. search (rules, tests)) in
    here ∙ list_any-map (λ line. number == line.line.number) line_described lines ∙ list_any-map (λ y. number == y) (λ line. line.line.number) (map line_described lines)
