-- detail
-- The keys of a GSD file, in any case (GSD specification, revision 3).
use Rattle.std.specs.Prelude.{codes, ℕ, ◌+◌, ◌==◌, Bool, true, false, ◌&&◌, ◌||◌, nat_le, nat_lt, length, if◌then◌else◌, List, [], ◌∷◌, Option, Some, None}
use Rattle.gsd_files.specs.Values.{number_of}
use Rattle.gsd_files.specs.declared.keys.Setting.{Setting}
use Rattle.gsd_files.specs.declared.keys.Setting.TheVariants as settings
use Rattle.gsd_files.specs.declared.keys.Group.{Group}
use Rattle.gsd_files.specs.declared.keys.Group.TheVariants as groups
use Rattle.gsd_files.specs.declared.keys.Kind.{Kind}
use Rattle.gsd_files.specs.declared.keys.Kind.TheVariants as kinds

-- a letter in lower case
abbrev pub lower : ℕ → ℕ
lower octet = if nat_le 65 octet && nat_le octet 90 then octet + 32 else octet

-- a key is this name, which is in lower case
abbrev pub same_key : List ℕ → List ℕ → Bool
same_key [] [] = true
same_key [] (letter ∷ letters) = false
same_key (octet ∷ octets) [] = false
same_key (octet ∷ octets) (letter ∷ letters) = lower octet == letter && same_key octets letters

-- a key begins with this text
abbrev pub begins_with : List ℕ → List ℕ → Bool
begins_with key [] = true
begins_with [] (letter ∷ letters) = false
begins_with (octet ∷ octets) (letter ∷ letters) = lower octet == letter && begins_with octets letters

-- a key has this text in it
abbrev pub has_part : List ℕ → List ℕ → Bool
has_part [] text = false
has_part (octet ∷ octets) text = begins_with (octet ∷ octets) text || has_part octets text

abbrev pub size_named : List ℕ → Option Setting
size_named key =
    if same_key key (codes "modular_station") then Some settings.Modular
    else if same_key key (codes "fixpresetmodules") then Some settings.Fixed
    else if same_key key (codes "max_module") then Some settings.MostModules
    else if same_key key (codes "max_input_len") then Some settings.MostInputs
    else if same_key key (codes "max_output_len") then Some settings.MostOutputs
    else if same_key key (codes "max_data_len") then Some settings.MostData
    else None

-- the setting with this key
abbrev pub setting_named : List ℕ → Option Setting
setting_named key =
    if same_key key (codes "ident_number") then Some settings.Ident
    else if same_key key (codes "sync_mode_supp") then Some settings.Sync
    else if same_key key (codes "freeze_mode_supp") then Some settings.Freeze
    else if same_key key (codes "fail_safe") then Some settings.FailSafe
    else if same_key key (codes "max_user_prm_data_len") then Some settings.MostParameters
    else size_named key

-- octets of user parameters behind a place, a default at a place, or a slot with a number: the key has an argument
abbrev pub numbered : List ℕ → ℕ → Option Kind
numbered key number =
    if same_key key (codes "ext_user_prm_data_const") then Some (kinds.UserOctets number)
    else if same_key key (codes "ext_user_prm_data_ref") then Some (kinds.UserDefault number)
    else if same_key key (codes "slot") then Some (kinds.Slot number)
    else None

abbrev pub numbered_by : List ℕ → Option ℕ → Option Kind
numbered_by key None = None
numbered_by key (Some number) = numbered key number

-- the reference of a module is a row of its own, with nothing but the number
abbrev pub referenced_by : Option ℕ → Option Kind
referenced_by None = None
referenced_by (Some reference) = Some (kinds.Reference reference)

unfoldable pub with_argument : List ℕ → List ℕ → Option Kind
with_argument key argument =
    if nat_lt 0 (length argument) then numbered_by key (number_of argument) else referenced_by (number_of key)

-- a row of user parameters, of a slot or of a reference
abbrev pub special_kind : List ℕ → List ℕ → Option Kind
special_kind key argument =
    if same_key key (codes "user_prm_data_len") then Some kinds.UserLength
    else if same_key key (codes "ext_module_prm_data_len") then Some kinds.UserLength
    else if same_key key (codes "user_prm_data") then Some (kinds.UserOctets 0)
    else with_argument key argument

-- the kind of rows that a key which is read over belongs to
abbrev pub group_named : List ℕ → Group
group_named key =
    if has_part key (codes "prm") then groups.Parameters
    else if has_part key (codes "diag") then groups.Diagnosis
    else groups.Others

abbrev pub or_left : List ℕ → Option Kind → Kind
or_left key (Some kind) = kind
or_left key None = kinds.Left (group_named key)

abbrev pub kind_by : List ℕ → List ℕ → Option Setting → Kind
kind_by key argument (Some setting) = kinds.Setting setting
kind_by key argument None = or_left key (special_kind key argument)

-- the kind of a row, by its key and the argument of the key
abbrev pub kind_of : List ℕ → List ℕ → Kind
kind_of key argument =
    if same_key key (codes "module") then kinds.Module
    else if same_key key (codes "endmodule") then kinds.EndModule
    else if same_key key (codes "preset") then kinds.Preset
    else kind_by key argument (setting_named key)

-- the row is read over
abbrev pub is_left : Kind → Bool
is_left (kinds.Left group) = true
is_left kinds.Module = false
is_left kinds.EndModule = false
is_left kinds.Preset = false
is_left (kinds.Setting setting) = false
is_left kinds.UserLength = false
is_left (kinds.UserOctets place) = false
is_left (kinds.UserDefault place) = false
is_left (kinds.Slot number) = false
is_left (kinds.Reference reference) = false

-- the largest number of a setting
abbrev pub most_of : Setting → ℕ
most_of settings.Ident = 65535
most_of settings.Sync = 1
most_of settings.Freeze = 1
most_of settings.FailSafe = 1
most_of settings.MostParameters = 237
most_of settings.Modular = 1
most_of settings.Fixed = 1
most_of settings.MostModules = 255
most_of settings.MostInputs = 244
most_of settings.MostOutputs = 244
most_of settings.MostData = 488
