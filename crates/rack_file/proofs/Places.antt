-- The place of a key that isn't accepted, and that the key is reported.
use Rattle.std.proofs.Common.{◌≡◌, ℕ, ◌+◌, ◌≤◌, Bool, true, false, cond, List, [], ◌∷◌, length, Option, Some, None, Result, Ok, Err, refl, subst, codes, arith}
use Rattle.std.specs.List.{list_any}
use Rattle.std.specs.Option.{ok_or, option_map_or}
use Rattle.std.specs.Str.{bytes_eq}
use Rattle.toml.specs.Data.{Data, Members, no_members, member, get_member}
use Rattle.dp_slave.specs.declared.description.Device.TheVariants.{Still}
use Rattle.dp_line.specs.declared.fault.OpenFault.{OpenFault}
use Rattle.dp_line.specs.World.{opening_fault, has_twice}
use Rattle.rack_file.specs.declared.fault.RackFault.TheVariants as faults
use Rattle.rack_file.specs.declared.misread.Place.{Place}
use Rattle.rack_file.specs.declared.misread.Place.TheVariants.{Rack, Line, Slave}
use Rattle.rack_file.specs.declared.misread.Cause.{Cause}
use Rattle.rack_file.specs.declared.misread.Cause.TheVariants.{Missing}
use Rattle.rack_file.specs.declared.misread.Misread.{Misread}
use Rattle.rack_file.specs.declared.misread.Misread.TheVariants as misreads
use Rattle.rack_file.specs.KeyFault.{KeyFault, IsWithin}
use Rattle.rack_file.specs.Misreads.{bad_key}
use Rattle.rack_file.specs.Rack.{LineDescription, RackDescription}
use Rattle.rack_file.specs.TomlKeys.{◌>>=◌, at_key, number_from, counted, array_of, table_of, flag_of, only, required_value, required, optional, each_from}
use Rattle.rack_file.specs.RackFile.{masters_of, configurations_of, device_of, list_of, slave_keys, slave_of, slave_at, slaves_of, port_of, line_keys, line_of, line_at, lines_of, numbers, numbers_differ, opened, all_open, rack_keys, rack_of, with_fault, rack_of_document}
use Rattle.rack_file.proofs.Accepted.{counted_count}

-- if a key isn't accepted, it is in such a place
abbrev Stands : {A : Type 0} → (Place → Type 0) → Result A Misread → Type 0
Stands P (Ok x) = Unit {0}
Stands P (Err misreads.OutOfMemory) = Unit {0}
Stands P (Err (misreads.BadKey bad)) = P bad.place
Stands P (Err misreads.TwiceLine) = Unit {0}
Stands P (Err (misreads.Open position fault)) = Unit {0}

-- two steps; the second one knows what the first one read
then_stands : {A B : Type 0} (P : Place → Type 0) (r : Result A Misread) (f : A → Result B Misread)
    → Stands P r → ((x : A) → r ≡ Ok x → Stands P (f x)) → Stands P (r >>= f)
then_stands P (Ok x) f here there = there x refl
then_stands P (Err misreads.OutOfMemory) f here there = tt
then_stands P (Err (misreads.BadKey bad)) f here there = here
then_stands P (Err misreads.TwiceLine) f here there = tt
then_stands P (Err (misreads.Open position fault)) f here there = tt

at_key_stands : {A : Type 0} (P : Place → Type 0) (place : Place) (key : List ℕ) (read : Result A Cause) → P place → Stands P (at_key place key read)
at_key_stands P place key (Ok x) here = tt
at_key_stands P place key (Err cause) here = here

-- a fault, and nothing is read
abbrev stopped : Misread → Result (Unit {0}) Misread
stopped misread = Err misread

only_by : (P : Place → Type 0) (known : Bool) (misread : Misread) (rest : Result (Unit {0}) Misread) → Stands P (stopped misread) → Stands P rest → Stands P (cond known rest (stopped misread))
only_by P true misread rest here there = there
only_by P false misread rest here there = here

only_stands : (P : Place → Type 0) (place : Place) (known : List (List ℕ)) (table : Members) → P place → Stands P (only place known table)
only_stands P place known no_members here = tt
only_stands P place known (member key value others) here = only_by P (list_any (bytes_eq key) known) _ (only place known others) here (only_stands P place known others here)

found_stands : (P : Place → Type 0) (place : Place) (key : List ℕ) (value : Option Data) → P place → Stands P (ok_or value (bad_key place key Missing))
found_stands P place key (Some value) here = tt
found_stands P place key None here = here

required_stands : {A : Type 0} (P : Place → Type 0) (read : Data → Result A Cause) (place : Place) (key : List ℕ) (table : Members) → P place → Stands P (required read place key table)
unfolding required
required_stands P read place key table here =
    then_stands P (required_value place key table) _ (found_stands P place key (get_member key table) here) (λ value _. at_key_stands P place key (read value) here)

optional_by : {A : Type 0} (P : Place → Type 0) (default : A) (read : Data → Result A Cause) (place : Place) (key : List ℕ) (value : Option Data) → P place
    → Stands P (option_map_or (λ value. at_key place key (read value)) value (Ok default))
optional_by P default read place key None here = tt
optional_by P default read place key (Some value) here = at_key_stands P place key (read value) here

optional_stands : {A : Type 0} (P : Place → Type 0) (default : A) (read : Data → Result A Cause) (place : Place) (key : List ℕ) (table : Members) → P place → Stands P (optional default read place key table)
unfolding optional
optional_stands P default read place key table here = optional_by P default read place key (get_member key table) here

-- reading elements whose positions are at most this
each_stands : {A : Type 0} (P : Place → Type 0) (read : ℕ → Data → Result A Misread) (most : ℕ)
    → ((position : ℕ) (value : Data) → 1 ≤ position → position ≤ most → Stands P (read position value))
    → (position : ℕ) (values : List Data) → 1 ≤ position → position + length values ≤ most + 1 → Stands P (each_from read position values)
unfolding each_from
each_stands P read most each position [] low high = tt
each_stands P read most each position (value ∷ values) low high =
    then_stands P (read position value) _ (each position value low (omega arith)) (λ first _.
    then_stands P (each_from read (position + 1) values) _ (each_stands P read most each (position + 1) values (omega arith) (omega arith)) (λ others _. tt))

slave_stands : (P : Place → Type 0) (place : Place) (slave : Members) → P place → Stands P (slave_of place slave)
unfolding slave_of
slave_stands P place slave here =
    then_stands P (only place slave_keys slave) _ (only_stands P place slave_keys slave here) (λ _ _.
    then_stands P (required (number_from 0 255) place (codes "address") slave) _ (required_stands P _ place _ slave here) (λ address _.
    then_stands P (required (number_from 0 65535) place (codes "ident") slave) _ (required_stands P _ place _ slave here) (λ ident _.
    then_stands P (required configurations_of place (codes "cfg") slave) _ (required_stands P _ place _ slave here) (λ cfgs _.
    then_stands P (optional false flag_of place (codes "sync") slave) _ (optional_stands P _ _ place _ slave here) (λ sync _.
    then_stands P (optional false flag_of place (codes "freeze") slave) _ (optional_stands P _ _ place _ slave here) (λ freeze _.
    then_stands P (optional 237 (number_from 0 255) place (codes "user_max") slave) _ (optional_stands P _ _ place _ slave here) (λ user_max _.
    then_stands P (optional Still device_of place (codes "device") slave) _ (optional_stands P _ _ place _ slave here) (λ device _.
    then_stands P (optional None list_of place (codes "lockers") slave) _ (optional_stands P _ _ place _ slave here) (λ lockers _.
    then_stands P (optional None list_of place (codes "readers") slave) _ (optional_stands P _ _ place _ slave here) (λ readers _.
    then_stands P (optional false flag_of place (codes "failsafe") slave) _ (optional_stands P _ _ place _ slave here) (λ failsafe _. tt)))))))))))

slave_at_stands : (lines line position : ℕ) (value : Data) → 1 ≤ line → line ≤ lines → 1 ≤ position → Stands (IsWithin lines) (slave_at line position value)
unfolding slave_at
slave_at_stands lines line position value low high first =
    then_stands (IsWithin lines) (at_key (Line line) (codes "slave") (table_of value)) _ (at_key_stands (IsWithin lines) (Line line) _ (table_of value) (low, high)) (λ slave _.
    slave_stands (IsWithin lines) (Slave line position) slave (low, high, first))

slaves_stand : (lines line : ℕ) (table : Members) → 1 ≤ line → line ≤ lines → Stands (IsWithin lines) (slaves_of line table)
unfolding slaves_of
slaves_stand lines line table low high =
    then_stands (IsWithin lines) (required array_of (Line line) (codes "slave") table) _ (required_stands (IsWithin lines) _ (Line line) _ table (low, high)) (λ values _.
    each_stands (IsWithin lines) (slave_at line) (length values) (λ position value first _. slave_at_stands lines line position value low high first) 1 values (omega arith) (omega arith))

line_stands : (lines position : ℕ) (line : Members) → 1 ≤ position → position ≤ lines → Stands (IsWithin lines) (line_of position line)
unfolding line_of
line_stands lines position line low high =
    then_stands (IsWithin lines) (only (Line position) line_keys line) _ (only_stands (IsWithin lines) (Line position) line_keys line (low, high)) (λ _ _.
    then_stands (IsWithin lines) (required (number_from 0 255) (Line position) (codes "number") line) _ (required_stands (IsWithin lines) _ (Line position) _ line (low, high)) (λ number _.
    then_stands (IsWithin lines) (required (number_from 0 4294967295) (Line position) (codes "capacity") line) _ (required_stands (IsWithin lines) _ (Line position) _ line (low, high)) (λ capacity _.
    then_stands (IsWithin lines) (required masters_of (Line position) (codes "masters") line) _ (required_stands (IsWithin lines) _ (Line position) _ line (low, high)) (λ masters _.
    then_stands (IsWithin lines) (slaves_of position line) _ (slaves_stand lines position line low high) (λ slaves _.
    then_stands (IsWithin lines) (optional None port_of (Line position) (codes "listen") line) _ (optional_stands (IsWithin lines) _ _ (Line position) _ line (low, high)) (λ listen _.
    then_stands (IsWithin lines) (optional None port_of (Line position) (codes "operator") line) _ (optional_stands (IsWithin lines) _ _ (Line position) _ line (low, high)) (λ operator _. tt)))))))

line_at_stands : (lines position : ℕ) (value : Data) → 1 ≤ position → position ≤ lines → Stands (IsWithin lines) (line_at position value)
unfolding line_at
line_at_stands lines position value low high =
    then_stands (IsWithin lines) (at_key Rack (codes "line") (table_of value)) _ (at_key_stands (IsWithin lines) Rack _ (table_of value) tt) (λ line _.
    line_stands lines position line low high)

lines_stand : (file : Members) → Stands (IsWithin 8) (lines_of file)
unfolding lines_of
lines_stand file =
    then_stands (IsWithin 8) (required array_of Rack (codes "line") file) _ (required_stands (IsWithin 8) _ Rack _ file tt) (λ all _.
    then_stands (IsWithin 8) (at_key Rack (codes "line") (counted 1 8 all)) _ (at_key_stands (IsWithin 8) Rack _ (counted 1 8 all) tt) (λ values is.
    let few = (counted_count 1 8 Rack (codes "line") all values is).1 in
    each_stands (IsWithin 8) line_at 8 (line_at_stands 8) 1 values (omega arith) (omega arith)))

differ_stands : (twice : Bool) → Stands (IsWithin 8) (cond twice (stopped misreads.TwiceLine) (Ok tt))
differ_stands true = tt
differ_stands false = tt

opened_stands : (position : ℕ) (fault : Option OpenFault) → Stands (IsWithin 8) (opened position fault)
opened_stands position None = tt
opened_stands position (Some fault) = tt

all_open_stand : (position : ℕ) (lines : List LineDescription) → Stands (IsWithin 8) (all_open position lines)
unfolding all_open
all_open_stand position [] = tt
all_open_stand position (line ∷ lines) =
    then_stands (IsWithin 8) (opened position (opening_fault line.line)) _ (opened_stands position (opening_fault line.line)) (λ _ _. all_open_stand (position + 1) lines)

rack_stands : (file : Members) → Stands (IsWithin 8) (rack_of file)
unfolding rack_of
rack_stands file =
    then_stands (IsWithin 8) (only Rack rack_keys file) _ (only_stands (IsWithin 8) Rack rack_keys file tt) (λ _ _.
    then_stands (IsWithin 8) (optional 4 (number_from 1 32) Rack (codes "workers") file) _ (optional_stands (IsWithin 8) _ _ Rack _ file tt) (λ workers _.
    then_stands (IsWithin 8) (lines_of file) _ (lines_stand file) (λ lines _.
    then_stands (IsWithin 8) (numbers_differ lines) _ (differ_stands (has_twice (numbers lines))) (λ _ _.
    then_stands (IsWithin 8) (all_open 1 lines) _ (all_open_stand 1 lines) (λ _ _. tt)))))

-- a key that isn't accepted is in the file itself, or in its lines 1 to 8
pub stands_within : (file : Members) (bad : KeyFault) → rack_of file ≡ Err (misreads.BadKey bad) → IsWithin 8 bad.place
stands_within file bad is = subst (λ (r : Result RackDescription Misread). Stands (IsWithin 8) r) is (rack_stands file)

-- the fault `BadKey` comes from a key
reported_by : (read : Result RackDescription Misread) → with_fault read ≡ Err faults.BadKey → (bad : KeyFault) × (read ≡ Err (misreads.BadKey bad))
reported_by (Ok rack) e = absurd cc
reported_by (Err misreads.OutOfMemory) e = absurd cc
reported_by (Err (misreads.BadKey bad)) e = (bad, refl)
reported_by (Err misreads.TwiceLine) e = absurd cc
reported_by (Err (misreads.Open position fault)) e = absurd cc

pub reported_in : (document : Option Members) → rack_of_document document ≡ Err faults.BadKey → (file : Members) × (bad : KeyFault) × (document ≡ Some file) × (rack_of file ≡ Err (misreads.BadKey bad))
reported_in None e = absurd cc
reported_in (Some file) e = let (bad, is) = reported_by (rack_of file) e in (file, bad, refl, is)
