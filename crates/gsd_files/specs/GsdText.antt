-- detail
-- The GSD file of a slave (GSD specification, revision 3; the defaults are own).
use Rattle.std.specs.Prelude.{codes, ℕ, ◌+◌, ◌-◌, ◌/◌, ◌%◌, ◌==◌, if◌then◌else◌, Bool, true, false, nat_lt, max, List, [], ◌∷◌, ◌++◌, length, Result, Ok, Err}
use Rattle.std.specs.Fmt.{decimal, digit_glyph}
use Rattle.arrayvec.specs.ArrayVec.{ArrayVec}
use Rattle.dp_cfg.specs.Reading.{reading_of, input_octets, output_octets}
use Rattle.dp_cfg.specs.declared.fault.CfgFault.{CfgFault}
use Rattle.dp_slave.specs.declared.description.SlaveSpec.{SlaveSpec}
use Rattle.gsd_files.specs.declared.sizes.Sizes.{Sizes}

-- ---- rows

-- the end of a line: CR LF
abbrev pub line_end : List ℕ
line_end = 13 ∷ 10 ∷ []

-- a row with its end
abbrev pub ended : List ℕ → List ℕ
ended row = row ++ line_end

-- `KEY = NUMBER`
unfoldable pub number_line : List ℕ → ℕ → List ℕ
number_line key number = key ++ (codes " = " ++ (decimal number ++ line_end))

-- `KEY = "TEXT"`
unfoldable pub text_line : List ℕ → List ℕ → List ℕ
text_line key text = key ++ (codes " = \"" ++ (text ++ (codes "\"" ++ line_end)))

-- two hex digits
unfoldable pub hex_2 : ℕ → List ℕ
hex_2 octet = digit_glyph true (octet / 16 % 16) ∷ digit_glyph true (octet % 16) ∷ []

abbrev pub flag : Bool → ℕ
flag true = 1
flag false = 0

-- ---- lengths of the data of all configurations

abbrev pub sizes_by : ℕ → ℕ → Sizes
sizes_by inputs outputs = record { inputs = inputs; outputs = outputs; both = inputs + outputs }

-- the lengths of a configuration
abbrev pub sizes_read : Result (List ℕ) CfgFault → Sizes
sizes_read (Ok octets) = sizes_by (input_octets octets) (output_octets octets)
sizes_read (Err fault) = sizes_by 0 0

abbrev pub larger : Sizes → Sizes → Sizes
larger a b = record { inputs = max a.inputs b.inputs; outputs = max a.outputs b.outputs; both = max a.both b.both }

-- the largest inputs, outputs and data of these configurations
abbrev pub sizes_of : List (ArrayVec ℕ) → Sizes
sizes_of [] = sizes_by 0 0
sizes_of (first ∷ others) = larger (sizes_read (reading_of first.items)) (sizes_of others)

-- ---- modules

-- what stands between two octets: the row goes on in the next one if there is room for no more in it
abbrev pub separator : ℕ → List ℕ
separator room = if room == 0 then codes ",\\" ++ line_end else codes ","

-- the room behind an octet: a further row has 15 octets
abbrev pub room_behind : ℕ → ℕ
room_behind room = if room == 0 then 14 else room - 1

-- the octets of a configuration, as `0x21,0x11`; the first row has room for this number of octets behind the first one
abbrev pub octets_text : ℕ → List ℕ → List ℕ
octets_text room [] = []
octets_text room (octet ∷ []) = codes "0x" ++ hex_2 octet
octets_text room (octet ∷ next ∷ octets) =
    codes "0x" ++ (hex_2 octet ++ (separator room ++ octets_text (room_behind room) (next ∷ octets)))

-- the name of the module of a configuration with this number, 0 to 9
abbrev pub module_name : ℕ → List ℕ
module_name number = codes "Configuration " ++ (48 + number) ∷ []

abbrev pub module_head : List ℕ
module_head = codes "Module = \"Configuration "

-- the module of a configuration: its name and octets, ten of them in its first row, its reference from 1 and its end
unfoldable pub module_text : ℕ → List ℕ → List ℕ
module_text number octets =
    module_head ++ ((48 + number) ∷ [] ++ (codes "\" " ++ (octets_text 9 octets ++ (line_end ++ (decimal (number + 1) ++ (line_end ++ ended (codes "EndModule")))))))

-- a module for each configuration; the first has this number
abbrev pub modules_text : ℕ → List (ArrayVec ℕ) → List ℕ
modules_text number [] = []
modules_text number (first ∷ others) = module_text number first.items ++ modules_text (number + 1) others

-- ---- the file

unfoldable pub ident_line : ℕ → List ℕ
ident_line ident = codes "Ident_Number = 0x" ++ (hex_2 (ident / 256 % 256) ++ (hex_2 (ident % 256) ++ line_end))

-- the first rows
unfoldable pub head_text : List ℕ
head_text = ended (codes "#Profibus_DP") ++ ended (codes "GSD_Revision = 3")

unfoldable pub revision_text : List ℕ
revision_text = ended (codes "Revision = \"1.0\"")

-- the rows of the names and the ident number
unfoldable pub names_text : List ℕ → List ℕ → ℕ → List ℕ
names_text vendor model ident =
    head_text ++ (text_line (codes "Vendor_Name") vendor ++ (text_line (codes "Model_Name") model ++ (revision_text ++ ident_line ident)))

unfoldable pub kind_text : List ℕ
kind_text =
    ended (codes "Protocol_Ident = 0")
    ++ ended (codes "Station_Type = 0")
    ++ ended (codes "FMS_supp = 0")
    ++ ended (codes "Hardware_Release = \"1.0\"")
    ++ ended (codes "Software_Release = \"1.0\"")

unfoldable pub rates_text : List ℕ
rates_text =
    ended (codes "9.6_supp = 1")
    ++ ended (codes "19.2_supp = 1")
    ++ ended (codes "45.45_supp = 1")
    ++ ended (codes "93.75_supp = 1")
    ++ ended (codes "187.5_supp = 1")
    ++ ended (codes "500_supp = 1")
    ++ ended (codes "1.5M_supp = 1")
    ++ ended (codes "3M_supp = 1")
    ++ ended (codes "6M_supp = 1")
    ++ ended (codes "12M_supp = 1")

-- the longest time of a reply at each rate, in bit times
unfoldable pub times_text : List ℕ
times_text =
    ended (codes "MaxTsdr_9.6 = 60")
    ++ ended (codes "MaxTsdr_19.2 = 60")
    ++ ended (codes "MaxTsdr_45.45 = 60")
    ++ ended (codes "MaxTsdr_93.75 = 60")
    ++ ended (codes "MaxTsdr_187.5 = 60")
    ++ ended (codes "MaxTsdr_500 = 100")
    ++ ended (codes "MaxTsdr_1.5M = 150")
    ++ ended (codes "MaxTsdr_3M = 250")
    ++ ended (codes "MaxTsdr_6M = 450")
    ++ ended (codes "MaxTsdr_12M = 800")

-- the cable, and what a slave supports
unfoldable pub cable_text : List ℕ
cable_text =
    ended (codes "Redundancy = 0")
    ++ ended (codes "Repeater_Ctrl_Sig = 0")
    ++ ended (codes "24V_Pins = 0")
    ++ ended (codes "Auto_Baud_supp = 1")
    ++ ended (codes "Set_Slave_Add_supp = 0")
    ++ ended (codes "Min_Slave_Intervall = 1")
    ++ ended (codes "Slave_Family = 0")
    ++ ended (codes "Max_Diag_Data_Len = 244")

-- the rows that are the same for all slaves
unfoldable pub fixed_text : List ℕ
fixed_text = kind_text ++ (rates_text ++ (times_text ++ cable_text))

-- the slave has more than one configuration
abbrev pub is_modular : List (ArrayVec ℕ) → Bool
is_modular cfgs = nat_lt 1 (length cfgs)

-- the rows of modes and parameters
unfoldable pub modes_text : SlaveSpec → List ℕ
modes_text slave =
    number_line (codes "Freeze_Mode_supp") (flag slave.freeze)
    ++ (number_line (codes "Sync_Mode_supp") (flag slave.sync)
    ++ (number_line (codes "Fail_Safe") (flag slave.failsafe)
    ++ (number_line (codes "Max_User_Prm_Data_Len") slave.user_max
    ++ number_line (codes "Modular_Station") (flag (is_modular slave.cfgs.items)))))

-- the rows of lengths
unfoldable pub sizes_text : Sizes → List ℕ
sizes_text sizes =
    number_line (codes "Max_Module") 1
    ++ (number_line (codes "Max_Input_Len") sizes.inputs
    ++ (number_line (codes "Max_Output_Len") sizes.outputs
    ++ number_line (codes "Max_Data_Len") sizes.both))

-- the rows of lengths of a modular slave; a compact one has none
abbrev pub lengths_text : Bool → Sizes → List ℕ
lengths_text true sizes = sizes_text sizes
lengths_text false sizes = []

-- the GSD file of a slave, with the names of its vendor and its model in ISO 8859-1
unfoldable pub gsd_text : List ℕ → List ℕ → SlaveSpec → List ℕ
gsd_text vendor model slave =
    names_text vendor model slave.ident
    ++ (fixed_text ++ (modes_text slave ++ (lengths_text (is_modular slave.cfgs.items) (sizes_of slave.cfgs.items) ++ modules_text 0 slave.cfgs.items)))
