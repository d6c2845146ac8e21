use Rattle.std.proofs.Common.{◌≡◌, map, Some, rules}
use Rattle.toml.specs.Data.{as_array}
use Rattle.toml.specs.View.{view, items_of}
use Rattle.rack_file.specs.TomlKeys.{elements_of}
use Rattle.rack_file.proofs.Elements.{elements-items_of}
use Rattle.rack_file.proofs.toml_keys.elements_in.Goals as goal

pub returns-in-Some : goal.returns-in-Some
unfolding elements_of
returns-in-Some c =
    let array = c.in-Some.array.now in
    let is : as_array (view c.args.value.now) ≡ Some (items_of (map view array.items)) = search rules in
    rw (is, elements-items_of, c.as_slice.ensures.value)
