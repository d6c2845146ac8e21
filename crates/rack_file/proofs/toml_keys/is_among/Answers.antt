use Rattle.std.proofs.Common.{◌≡◌, ◌∙◌, rules, tests}
use Rattle.std.specs.List.{list_any}
use Rattle.std.specs.Str.{bytes_eq}
use Rattle.std.proofs.lemmas.Iterator.{YieldsList-from_slice}
use Rattle.std.proofs.lemmas.Iterator.Search.{any_from_yields_List}
use Rattle.rack_file.proofs.Folds.{list_any-map}
use Rattle.rack_file.proofs.toml_keys.is_among.Goals as goal

pub returns : goal.returns
returns c =
    let here : c.any.result ≡ list_any (λ name. bytes_eq c.args.key.now name.now) c.args.known.now =
    any_from_yields_List _ _ _ c.any.result c.any.ensures.ran (YieldsList-from_slice c.args.known.now cc) (λ x b q k. search (rules, tests)) in
    here ∙ list_any-map (bytes_eq c.args.key.now) (λ name. name.now) c.args.known.now
