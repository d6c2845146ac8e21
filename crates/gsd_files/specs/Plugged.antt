-- detail
-- The slave that plugged modules of a GSD file make (own).
use Rattle.std.specs.Prelude.{ℕ, ◌+◌, ◌==◌, Bool, true, false, ◌&&◌, ◌||◌, nat_le, nat_lt, if◌then◌else◌, List, [], ◌∷◌, ◌++◌, length, Option, Some, None, unwrap_or, Result, Ok, Err}
use Rattle.dp_cfg.specs.Reading.{reading_of, input_octets, output_octets}
use Rattle.dp_cfg.specs.declared.fault.CfgFault.{CfgFault}
use Rattle.gsd_files.specs.Steps.{◌>>=◌}
use Rattle.gsd_files.specs.Files.{File}
use Rattle.gsd_files.specs.Naming.{module_named}
use Rattle.gsd_files.specs.declared.facts.Facts.{Facts}
use Rattle.gsd_files.specs.declared.facts.Module.{Module}
use Rattle.gsd_files.specs.declared.facts.Slot.{Slot}
use Rattle.gsd_files.specs.declared.plugged.PlugFault.{PlugFault}
use Rattle.gsd_files.specs.declared.plugged.PlugFault.TheVariants.{UnknownModule, ChooseModules, NoModules, ManyModules, WrongModule, NoDefault, ManyOctets, ManyParameters, NoConfiguration, ManyInputs, ManyOutputs, ManyData}
use Rattle.gsd_files.specs.declared.plugged.Plugged.{Plugged}
use Rattle.gsd_files.specs.declared.plugged.PluggedSlave.{PluggedSlave}
use Rattle.gsd_files.specs.declared.values.Span.{Span}

-- ---- slots

-- a reference is one of these
abbrev pub any_span : ℕ → List Span → Bool
any_span reference [] = false
any_span reference (span ∷ spans) = nat_le span.first reference && nat_le reference span.last || any_span reference spans

abbrev pub is_default : ℕ → Option ℕ → Bool
is_default reference None = false
is_default reference (Some default) = default == reference

-- a slot takes its default, and the modules with its references
abbrev pub takes : Slot → Option ℕ → Bool
takes slot None = false
takes slot (Some reference) = is_default reference slot.default || any_span reference slot.allowed.items

-- the first slot with this number
abbrev pub slot_numbered : ℕ → List Slot → Option Slot
slot_numbered number [] = None
slot_numbered number (slot ∷ slots) = if slot.number == number then Some slot else slot_numbered number slots

-- each module may be plugged if no slot has the number of its place
abbrev pub is_taken : Option Slot → Option ℕ → Bool
is_taken None reference = true
is_taken (Some slot) reference = takes slot reference

-- the first module with this reference
abbrev pub referenced : ℕ → List Module → Option Module
referenced reference [] = None
referenced reference (part ∷ modules) = if is_default reference part.reference then Some part else referenced reference modules

-- ---- modules

-- octets and those of one more module, of at most 244
abbrev pub joined : List ℕ → List ℕ → Result (List ℕ) PlugFault
joined octets more = if nat_lt 244 (length octets + length more) then Err ManyOctets else Ok (octets ++ more)

-- user parameters and those of one more module, of at most 237 octets
abbrev pub user_joined : List ℕ → List ℕ → Result (List ℕ) PlugFault
user_joined user more = if nat_lt 237 (length user + length more) then Err ManyParameters else Ok (user ++ more)

abbrev pub plugged_by : ℕ → List ℕ → List ℕ → Plugged
plugged_by count octets user = record { octets = record { items = octets }; user = record { items = user }; count = count }

abbrev pub most_modules : File → ℕ
most_modules file = unwrap_or file.facts.most_modules 255

abbrev pub plug_joined : Plugged → Module → Result Plugged PlugFault
plug_joined plugged part =
    joined plugged.octets.items part.octets.items >>= λ octets.
    user_joined plugged.user.items part.user.items >>= λ user.
    Ok (plugged_by (plugged.count + 1) octets user)

-- one more module, in the slot with this number
abbrev pub plug_numbered : File → ℕ → Plugged → Module → Result Plugged PlugFault
plug_numbered file number plugged part =
    if nat_le (most_modules file) plugged.count then Err (ManyModules (most_modules file))
    else if is_taken (slot_numbered number file.slots) part.reference then plug_joined plugged part
    else Err (WrongModule number)

-- one more module, in the slot with this number, or else in the next one
abbrev pub plug_in : File → Option ℕ → Plugged → Module → Result Plugged PlugFault
plug_in file number plugged part = plug_numbered file (unwrap_or number (plugged.count + 1)) plugged part

abbrev pub plug : File → Plugged → Module → Result Plugged PlugFault
plug file plugged part = plug_in file None plugged part

abbrev pub plug_found : File → Plugged → Option Module → Result Plugged PlugFault
plug_found file plugged None = Err UnknownModule
plug_found file plugged (Some part) = plug file plugged part

-- the modules with these names, one after another
abbrev pub plug_named : File → Plugged → List (List ℕ) → Result Plugged PlugFault
plug_named file plugged [] = Ok plugged
plug_named file plugged (name ∷ names) =
    plug_found file plugged (module_named file.modules name) >>= λ more. plug_named file more names

abbrev pub plug_if : File → Plugged → Module → Bool → Result Plugged PlugFault
plug_if file plugged part true = plug file plugged part
plug_if file plugged part false = Ok plugged

-- the modules that are plugged from the start, in the order of the file
abbrev pub plug_preset : File → Plugged → List Module → Result Plugged PlugFault
plug_preset file plugged [] = Ok plugged
plug_preset file plugged (part ∷ modules) =
    plug_if file plugged part part.preset >>= λ more. plug_preset file more modules

-- the only module of a compact slave
abbrev pub plug_only : File → Plugged → List Module → Result Plugged PlugFault
plug_only file plugged [] = Err NoModules
plug_only file plugged (part ∷ []) = plug file plugged part
plug_only file plugged (part ∷ other ∷ modules) = Err ChooseModules

abbrev pub plug_referenced : File → Plugged → ℕ → Option Module → Result Plugged PlugFault
plug_referenced file plugged number None = Err (NoDefault number)
plug_referenced file plugged number (Some part) = plug_in file (Some number) plugged part

-- the default of a slot; none, or 0, leaves it empty
abbrev pub plug_default : File → Plugged → ℕ → Option ℕ → Result Plugged PlugFault
plug_default file plugged number None = Ok plugged
plug_default file plugged number (Some reference) =
    if reference == 0 then Ok plugged else plug_referenced file plugged number (referenced reference file.modules)

-- the defaults of these slots, in their order
abbrev pub plug_defaults : File → Plugged → List Slot → Result Plugged PlugFault
plug_defaults file plugged [] = Ok plugged
plug_defaults file plugged (slot ∷ slots) =
    plug_default file plugged slot.number slot.default >>= λ more. plug_defaults file more slots

abbrev pub has_preset : List Module → Bool
has_preset [] = false
has_preset (part ∷ modules) = part.preset || has_preset modules

-- the modules that are plugged if none is named: the defaults of the slots, or else those that are plugged from the start, or the
-- only one of a compact slave
abbrev pub plug_unnamed : File → Plugged → Result Plugged PlugFault
plug_unnamed file plugged =
    if nat_lt 0 (length file.slots) then plug_defaults file plugged file.slots
    else if has_preset file.modules then plug_preset file plugged file.modules
    else if file.facts.modular then Err ChooseModules
    else plug_only file plugged file.modules

-- before the first module: the user parameters of the station
abbrev pub nothing_plugged : File → Plugged
nothing_plugged file = plugged_by 0 [] file.facts.user.items

-- the modules that are plugged before those with names: those that are plugged from the start, if they are fixed
abbrev pub plug_fixed : File → Plugged → Result Plugged PlugFault
plug_fixed file plugged = if file.facts.fixed then plug_preset file plugged file.modules else Ok plugged

-- the plugged modules of a file, by the names that are given
abbrev pub plugged_of : File → List (List ℕ) → Result Plugged PlugFault
plugged_of file [] = plug_unnamed file (nothing_plugged file)
plugged_of file (name ∷ names) = plug_fixed file (nothing_plugged file) >>= λ plugged. plug_named file plugged (name ∷ names)

-- ---- lengths

abbrev pub fits_by : ℕ → ℕ → ℕ → ℕ → ℕ → Result (Unit {0}) PlugFault
fits_by most_inputs most_outputs most_data inputs outputs =
    if nat_lt most_inputs inputs then Err (ManyInputs inputs most_inputs)
    else if nat_lt most_outputs outputs then Err (ManyOutputs outputs most_outputs)
    else if nat_lt most_data (inputs + outputs) then Err (ManyData (inputs + outputs) most_data)
    else Ok tt

abbrev pub fits_read : Facts → Result (List ℕ) CfgFault → Result (Unit {0}) PlugFault
fits_read facts (Err fault) = Err (NoConfiguration fault)
fits_read facts (Ok octets) =
    fits_by (unwrap_or facts.most_inputs 244) (unwrap_or facts.most_outputs 244) (unwrap_or facts.most_data 488)
    (input_octets octets) (output_octets octets)

-- the octets are a configuration with no more inputs, outputs and data than the file allows
abbrev pub fits : Facts → List ℕ → Result (Unit {0}) PlugFault
fits facts octets = fits_read facts (reading_of octets)

-- ---- the slave

abbrev pub slave_by : File → Plugged → PluggedSlave
slave_by file plugged = record {
  ident = file.ident;
  sync = file.facts.sync;
  freeze = file.facts.freeze;
  failsafe = file.facts.failsafe;
  user_max = unwrap_or file.facts.most_parameters (length plugged.user.items);
  user = plugged.user;
  octets = plugged.octets;
  left = file.facts.left;
}

-- the slave of a file with these modules plugged
abbrev pub plugged_slave : File → List (List ℕ) → Result PluggedSlave PlugFault
plugged_slave file names =
    plugged_of file names >>= λ plugged. fits file.facts plugged.octets.items >>= λ _. Ok (slave_by file plugged)
