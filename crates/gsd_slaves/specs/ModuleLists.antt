-- detail
-- What `rackd slave --list` writes (own).
use Rattle.std.specs.Prelude.{codes, ℕ, Bool, true, false, List, [], ◌∷◌, ◌++◌, Option, Some, None, Result, Ok, Err, if◌then◌else◌}
use Rattle.std.specs.Fmt.{decimal}
use Rattle.hex.specs.Hex.{encode_lower}
use Rattle.gsd_files.specs.Files.{File, gsd_of}
use Rattle.gsd_files.specs.declared.cause.RowFault.{RowFault}
use Rattle.gsd_files.specs.Plugged.{is_default, takes}
use Rattle.gsd_files.specs.declared.facts.Module.{Module}
use Rattle.gsd_files.specs.declared.facts.Slot.{Slot}
use Rattle.gsd_slaves.specs.SlaveRuns.{Refusal, in_row}

-- the end of the row of a module: whether it is plugged from the start
abbrev pub row_end : Bool → List ℕ
row_end true = codes " preset\n"
row_end false = codes "\n"

-- the row of a module: its name in quotes, and its configuration octets in hex
unfoldable pub module_row : Module → List ℕ
module_row part = codes "\"" ++ (part.name.items ++ (codes "\" " ++ (encode_lower part.octets.items ++ row_end part.preset)))

-- a row for each module
abbrev pub module_rows : List Module → List ℕ
module_rows [] = []
module_rows (part ∷ modules) = module_row part ++ module_rows modules

-- ---- slots

abbrev pub default_by : Bool → List ℕ
default_by true = codes " default\n"
default_by false = codes "\n"

-- the end of the row of a module that a slot takes: whether it is the slot's default
abbrev pub default_end : Slot → Option ℕ → List ℕ
default_end slot None = codes "\n"
default_end slot (Some reference) = default_by (is_default reference slot.default)

-- the row of a module that a slot takes: its name in quotes, behind two spaces
unfoldable pub taken_row : Slot → Module → List ℕ
taken_row slot part = codes "  \"" ++ (part.name.items ++ (codes "\"" ++ default_end slot part.reference))

-- a row for each module that a slot takes
abbrev pub taken_rows : Slot → List Module → List ℕ
taken_rows slot [] = []
taken_rows slot (part ∷ modules) = (if takes slot part.reference then taken_row slot part else []) ++ taken_rows slot modules

-- the row of a slot: its number, and its name in quotes
unfoldable pub slot_row : Slot → List ℕ
slot_row slot = codes "slot " ++ (decimal slot.number ++ (codes " \"" ++ (slot.name.items ++ codes "\"\n")))

-- a row for each slot, with those of the modules that it takes behind it
abbrev pub slot_rows : List Module → List Slot → List ℕ
slot_rows modules [] = []
slot_rows modules (slot ∷ slots) = slot_row slot ++ (taken_rows slot modules ++ slot_rows modules slots)

abbrev pub list_of_file : Result File RowFault → Result (List ℕ) Refusal
list_of_file (Err fault) = Err (in_row fault)
list_of_file (Ok file) = Ok (module_rows file.modules ++ slot_rows file.modules file.slots)

-- the modules and slots of a GSD file, or the reason why it isn't read
abbrev pub list_outcome : List ℕ → Result (List ℕ) Refusal
list_outcome text = list_of_file (gsd_of text)
