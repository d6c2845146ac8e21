-- detail
-- What `rackd slave` writes (own).
use Rattle.std.specs.Prelude.{◌≡◌, codes, ℕ, Bool, nat_eq, nat_le, nat_lt, is_some, List, [], ◌∷◌, ◌++◌, length, Option, Some, None, Result, Ok, Err, if◌then◌else◌, string_bytes}
use Rattle.std.specs.Fmt.{decimal}
use Rattle.std.specs.Io.KnownBytes.{Appends}
use Rattle.strsim.specs.Edits.{levenshtein_row}
use Rattle.dp_text.specs.Writes.{WritesPrefix}
use Rattle.gsd_files.specs.Files.{File, gsd_of}
use Rattle.gsd_files.specs.Naming.{module_named}
use Rattle.gsd_files.specs.Plugged.{plugged_slave}
use Rattle.gsd_files.specs.declared.cause.RowFault.{RowFault}
use Rattle.gsd_files.specs.declared.facts.Module.{Module}
use Rattle.gsd_files.specs.declared.plugged.PlugFault.{PlugFault}
use Rattle.gsd_files.specs.declared.plugged.PlugFault.TheVariants as plugs
use Rattle.gsd_files.specs.declared.plugged.PluggedSlave.{PluggedSlave}
use Rattle.gsd_slaves.specs.SlaveText.{slave_text}
use Rattle.gsd_slaves.specs.declared.fault.SlaveFault.{SlaveFault}
use Rattle.gsd_slaves.specs.declared.fault.SlaveFault.TheVariants as faults

-- ---- a name that doesn't stand for one module

-- the first of the names that doesn't stand for one module
abbrev pub first_unknown : List Module → List (List ℕ) → List ℕ
first_unknown modules [] = []
first_unknown modules (name ∷ names) = if is_some (module_named modules name) then first_unknown modules names else name

-- two names are at most `most` octets apart
abbrev pub is_near : ℕ → List ℕ → List ℕ → Bool
is_near most name other = nat_le (levenshtein_row nat_eq name other (length other)) most

-- the first name of a module that is at most `most` octets away from a name
abbrev pub first_near : ℕ → List ℕ → List Module → Option (List ℕ)
first_near most name [] = None
first_near most name (first ∷ others) =
    if is_near most name first.name.items then Some first.name.items else first_near most name others

abbrev pub or_far : List ℕ → List Module → Option (List ℕ) → Option (List ℕ)
or_far name modules (Some near) = Some near
or_far name modules None = if nat_lt (length name) 6 then None else first_near 2 name modules

-- the first name that is one octet away, or else, for a name of at least six octets, the first that is two away
abbrev pub nearest : List ℕ → List Module → Option (List ℕ)
nearest name modules = or_far name modules (first_near 1 name modules)

-- names in quotes, each behind a space
abbrev pub quoted_names : List (List ℕ) → List ℕ
quoted_names [] = []
quoted_names (name ∷ names) = codes " \"" ++ (name ++ (codes "\"" ++ quoted_names names))

-- some names were appended
abbrev pub AppendsNames : List ℕ → List ℕ → Type 0
AppendsNames old new = (names : List (List ℕ)) × (new ≡ old ++ quoted_names names)

-- what helps with a name that doesn't stand for one module
pub data Hint : Type 0 where
  no_hint : Hint
  near_name : List ℕ → Hint
  several_names : List (List ℕ) → Hint

abbrev pub several_front : List ℕ → List ℕ
several_front name = codes "several modules begin with \"" ++ (name ++ codes "\":")

-- the text for a name that doesn't stand for one module
abbrev pub unknown_text : List ℕ → Hint → List ℕ
unknown_text name no_hint = codes "no module \"" ++ name ++ codes "\""
unknown_text name (near_name near) = codes "no module \"" ++ (name ++ (codes "\", perhaps \"" ++ (near ++ codes "\"")))
unknown_text name (several_names names) = several_front name ++ quoted_names names

-- it is the text for this name; which other names it has is left open
abbrev pub IsUnknownText : List ℕ → List ℕ → Type 0
IsUnknownText name text = (hint : Hint) × (text ≡ unknown_text name hint)

-- ---- a slot that doesn't take its module

abbrev pub wrong_front : ℕ → List ℕ → List ℕ → List ℕ
wrong_front number slot part =
    codes "slot " ++ (decimal number ++ (codes " \"" ++ (slot ++ (codes "\" does not take \"" ++ (part ++ codes "\", but:")))))

-- the text for a slot with this number and name, its module, and the names of those that it takes
abbrev pub wrong_text : ℕ → List ℕ → List ℕ → List (List ℕ) → List ℕ
wrong_text number slot part names = wrong_front number slot part ++ quoted_names names

-- it is the text for this slot; which names it has is left open
abbrev pub IsWrongText : ℕ → List ℕ → Type 0
IsWrongText number text =
    (slot : List ℕ) × (part : List ℕ) × (names : List (List ℕ)) × (text ≡ wrong_text number slot part names)

-- ---- the run

-- why no slave is written: a line of the file, its modules, or a name that none of these modules has
pub data Refusal : Type 0 where
  in_row : RowFault → Refusal
  of_modules : PlugFault → Refusal
  unknown : List Module → List ℕ → Refusal

abbrev pub refused : List Module → List (List ℕ) → PlugFault → Refusal
refused modules names plugs.UnknownModule = unknown modules (first_unknown modules names)
refused modules names fault = of_modules fault

abbrev pub text_by : List Module → List (List ℕ) → Result PluggedSlave PlugFault → Result (List ℕ) Refusal
text_by modules names (Ok slave) = Ok (slave_text slave)
text_by modules names (Err fault) = Err (refused modules names fault)

abbrev pub text_of_file : List (List ℕ) → Result File RowFault → Result (List ℕ) Refusal
text_of_file names (Err fault) = Err (in_row fault)
text_of_file names (Ok file) = text_by file.modules names (plugged_slave file names)

-- the table of a slave of a GSD file with these modules plugged, or the reason why there is none
abbrev pub slave_outcome : List ℕ → List (List ℕ) → Result (List ℕ) Refusal
slave_outcome text names = text_of_file names (gsd_of text)

-- a fault is for this reason, or memory ran out
abbrev pub IsFault : Result (List ℕ) Refusal → SlaveFault → Type 0
IsFault outcome faults.OutOfMemory = Unit {0}
IsFault outcome faults.WriteFault = ⊥
IsFault outcome (faults.Row fault) = outcome ≡ Err (in_row fault)
IsFault outcome (faults.Modules fault) = outcome ≡ Err (of_modules fault)
IsFault outcome (faults.WrongModule number text) = (outcome ≡ Err (of_modules (plugs.WrongModule number))) × IsWrongText number (string_bytes text)
IsFault outcome (faults.UnknownModule text) =
    (modules : List Module) × (name : List ℕ) × (outcome ≡ Err (unknown modules name)) × IsUnknownText name (string_bytes text)

-- what a run returned and left on its writer: the text, a prefix of it if a write failed, or nothing
abbrev pub Leaves : Result (List ℕ) Refusal → Option (List ℕ) → Option (List ℕ) → Result (Unit {0}) SlaveFault → Type 0
Leaves outcome old new (Ok done) = (text : List ℕ) × (outcome ≡ Ok text) × Appends old new text
Leaves outcome old new (Err faults.WriteFault) = (text : List ℕ) × (outcome ≡ Ok text) × WritesPrefix old new text
Leaves outcome old new (Err fault) = IsFault outcome fault × (new ≡ old)
