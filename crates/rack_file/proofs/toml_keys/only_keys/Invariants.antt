use Rattle.std.proofs.Common.{◌≡◌, map}
use Rattle.toml.specs.View.{members_view}
use Rattle.rack_file.specs.TomlKeys.{only}
use Rattle.rack_file.proofs.toml_keys.only_keys.Given as goal

abbrev pub invariant-loop-key : goal.invariant-loop-key
invariant-loop-key l =
    (goal.iterator-loop-key).can_next l.key-iterator × (goal.iterator-loop-key).is_finite l.key-iterator
    × (only l.place (map (λ key. key.now) l.known) (members_view l.key-iterator) ≡ only l.place (map (λ key. key.now) l.known) (members_view l.table.entries))
