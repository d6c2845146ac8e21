-- Slaves that are changed one after another, and the addresses of those that leave their lists.
use Rattle.std.proofs.Common.{◌≡◌, ℕ, ◌+◌, ◌<◌, Bool, true, false, List, [], ◌∷◌, ◌++◌, length, get_or, map, Some, refl, sym, ap, ◌∙◌, arith}
use Rattle.std.specs.Prelude.{filter, option_map, slice_get}
use Rattle.std.proofs.lemmas.List.{length-append, length-map, take_all}
use Rattle.dp_owners.specs.declared.owners.Owners.{Owners}
use Rattle.dp_slave.specs.SlaveRecord.{SlaveRecord}
use Rattle.dp_slave.specs.SlaveParts.{SlaveParts}
use Rattle.dp_line.specs.World.{address_of_slave}
use Rattle.dp_line.specs.Stations.{AreChanged, AreThreaded, at_index, slaves_of}
use Rattle.dp_line.proofs.Ticks.{address_read, addresses_without, changed_all, changed_more, is_next, released_addresses_more}

module _ (masters : List ℕ) (change : SlaveRecord → SlaveRecord) (leaves : SlaveRecord → Bool) where
  -- none so far
  pub none_changed : (owners : Owners) (slaves : List SlaveParts) (released_addresses : List ℕ) → AreThreaded masters owners slaves → released_addresses ≡ []
      → AreChanged masters change leaves 0 (slaves_of slaves) owners slaves released_addresses
  none_changed owners slaves released_addresses threaded none = record { threaded = threaded; slaves_are = refl; listed = none; few = omega (arith, ap length none) }

  -- one more, which leaves its list
  pub one_leaves : (n : ℕ) (before : List SlaveRecord) (owners later : Owners) (slaves after : List SlaveParts) (released_addresses released_addresses_after : List ℕ) (address : ℕ) (x : SlaveParts)
      → ((slave : SlaveRecord) → address_of_slave (change slave) ≡ address_of_slave slave)
      → Some true ≡ option_map leaves (slice_get (slaves_of slaves) n) → AreThreaded masters later after → slaves_of after ≡ at_index n change (slaves_of slaves)
      → n < length after → x ≡ get_or after n x → address ≡ address_of_slave (get_or after n x).slave → released_addresses_after ≡ released_addresses ++ address ∷ []
      → AreChanged masters change leaves n before owners slaves released_addresses → AreChanged masters change leaves (n + 1) before later after released_addresses_after
  one_leaves n before owners later slaves after released_addresses released_addresses_after address x kept goes threaded done within read is pushed so =
      let next = is_next leaves change before (slaves_of slaves) n true so.slaves_are goes in record {
        threaded = threaded;
        slaves_are = done ∙ ap (λ l. at_index n change l) so.slaves_are ∙ changed_more n change before;
        listed = released_addresses_more leaves before n address next.slave released_addresses released_addresses_after pushed so.listed
            (address_read change before (slaves_of slaves) after n address next.slave x kept so.slaves_are done next.here within read is)
            next.here next.is;
        few = omega (arith, ap length pushed, so.few, length-append released_addresses (address ∷ []));
      }

  -- one more, which stays in its list or is in none
  pub one_stays : (n : ℕ) (before : List SlaveRecord) (owners later : Owners) (slaves after : List SlaveParts) (released_addresses : List ℕ)
      → Some false ≡ option_map leaves (slice_get (slaves_of slaves) n) → AreThreaded masters later after → slaves_of after ≡ at_index n change (slaves_of slaves)
      → AreChanged masters change leaves n before owners slaves released_addresses → AreChanged masters change leaves (n + 1) before later after released_addresses
  one_stays n before owners later slaves after released_addresses stays threaded done so =
      let next = is_next leaves change before (slaves_of slaves) n false so.slaves_are stays in record {
        threaded = threaded;
        slaves_are = done ∙ ap (λ l. at_index n change l) so.slaves_are ∙ changed_more n change before;
        listed = so.listed ∙ sym (addresses_without leaves before n next.slave next.here next.is);
        few = omega (arith, so.few);
      }

  -- all
  pub each_changed : (n : ℕ) (before slaves : List SlaveParts) (owners : Owners) (released_addresses : List ℕ) → n ≡ length before → AreChanged masters change leaves n (slaves_of before) owners slaves released_addresses
      → (slaves_of slaves ≡ map change (slaves_of before)) × (released_addresses ≡ map address_of_slave (filter leaves (slaves_of before)))
  each_changed n before slaves owners released_addresses all so =
      let ends : n ≡ length (slaves_of before) = omega (arith, all, length-map before (λ (p : SlaveParts). p.slave)) in (
        so.slaves_are ∙ changed_all n change (slaves_of before) ends,
        so.listed ∙ ap (λ (l : List SlaveRecord). map address_of_slave (filter leaves l)) (take_all n (slaves_of before) (omega (arith, ends))),
      )
