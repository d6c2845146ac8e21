-- helper
-- Examples: one line with masters 1 and 2 and slave 5, ident number 80A1, as a document; and the texts for documents that describe no rack.
use Rattle.std.specs.Prelude.{◌≡◌, ⊤, ℕ, zero, suc, pos, negsuc, List, [], ◌∷◌, ◌++◌, codes, true, false, None, Some, Ok, Err, refl, option_map}
use Rattle.std.specs.Fmt.{digits}
use Rattle.std.specs.Str.{chars}
use Rattle.hex.proofs.OnLiterals.{hex_on_literals}
use Rattle.toml.proofs.OnLiterals.{toml_on_literals}
use Rattle.toml.specs.Data.{Data, string, integer, boolean, array, table, Items, no_items, item, Members, no_members, member}
use Rattle.toml.specs.Parse.{parse_document}
use Rattle.dp_sap.specs.AccessTable.{no_lists}
use Rattle.dp_slave.specs.declared.description.Device.TheVariants.{Still, Mirror}
use Rattle.dp_line.specs.declared.fault.OpenFault.TheVariants.{TwiceAddress, BadCfg}
use Rattle.rack_file.specs.declared.fault.RackFault.TheVariants.{NotToml, BadKey, TwiceLine, Open}
use Rattle.rack_file.specs.declared.misread.Place.{Place}
use Rattle.rack_file.specs.declared.misread.Place.TheVariants.{Rack, Line, Slave}
use Rattle.rack_file.specs.declared.misread.Cause.{Cause}
use Rattle.rack_file.specs.declared.misread.Cause.TheVariants.{NoSuchKey, Missing, NoNumber, NoText, NoTextOrArray, NoHex, ManyOctets, NoFlag, NoArray, Count, NoTable, NoDevice}
use Rattle.rack_file.specs.Rack.{LineDescription}
use Rattle.rack_file.specs.Misreads.{bad_key, key_fault_text, shown}
use Rattle.rack_file.specs.TomlKeys.{required, optional, elements_of, text_or_array_of, number_from, octets_of, each_from}
use Rattle.rack_file.specs.RackFile.{masters_of, configuration_of, configurations_of, device_of, list_of, slave_of, slave_at, slaves_of, port_of, line_of, line_at, lines_of, all_open, rack_of, rack_of_document, rack_in}
use Rattle.strsim.specs.Edits.{cost_at, osa_from, osa_row}
use Rattle.rack_file.specs.Suggestions.{suggested_key}
use Rattle.rack_file.specs.Causes.{cause_of, row_at}

-- the definitions that are unfolded to compute a document's rack
unfoldable rack_on_literals : ⊤
unfolding hex_on_literals toml_on_literals digits required optional elements_of text_or_array_of number_from octets_of each_from masters_of configuration_of configurations_of device_of list_of slave_of slave_at slaves_of port_of line_of line_at lines_of all_open rack_of
rack_on_literals = tt

-- `[[line.slave]]` with this ident number
abbrev slave_5 : ℕ → Data
slave_5 ident =
    table (member (codes "address") (integer (pos 5))
    (member (codes "cfg") (string (codes "2111"))
    (member (codes "freeze") (boolean true)
    (member (codes "ident") (integer (pos ident))
    (member (codes "sync") (boolean true) no_members)))))

-- `[[line]]` with this number and this second master, and one slave
abbrev line_with : ℕ → ℕ → Data → Data
line_with number second slave =
    table (member (codes "capacity") (integer (pos 1000))
    (member (codes "masters") (array (item (integer (pos 1)) (item (integer (pos second)) no_items)))
    (member (codes "number") (integer (pos number))
    (member (codes "slave") (array (item slave no_items)) no_members))))

abbrev file : Items → Members
file lines = member (codes "line") (array lines) no_members

abbrev line_1 : LineDescription
line_1 = record {
  line = record {
    number = 1;
    capacity = 1000;
    masters = 1 ∷ 2 ∷ [];
    slaves = record {
      address = 5;
      ident = 0x80A1;
      cfgs = record { items = record { items = 0x21 ∷ 0x11 ∷ [] } ∷ [] };
      sync = true;
      freeze = true;
      user_max = 237;
      device = Still;
      lists = no_lists;
      failsafe = false;
    } ∷ [];
  };
  listen = None;
  operator = None;
}

pub one_line : rack_of (file (item (line_with 1 2 (slave_5 0x80A1)) no_items)) ≡ Ok (record { workers = 4; lines = line_1 ∷ [] })
unfolding rack_on_literals
one_line = refl

pub no_key : rack_of_document (Some no_members) ≡ Err BadKey
unfolding rack_on_literals
no_key = refl

pub unknown_key : rack_of_document (Some (member (codes "lines") (array no_items) no_members)) ≡ Err BadKey
unfolding rack_on_literals
unknown_key = refl

pub wide_ident : rack_of_document (Some (file (item (line_with 1 2 (slave_5 65536)) no_items))) ≡ Err BadKey
unfolding rack_on_literals
wide_ident = refl

pub one_number_twice : rack_of_document (Some (file (item (line_with 1 2 (slave_5 1)) (item (line_with 1 3 (slave_5 2)) no_items)))) ≡ Err TwiceLine
unfolding rack_on_literals
one_number_twice = refl

pub master_with_the_slaves_address : rack_of_document (Some (file (item (line_with 1 2 (slave_5 1)) (item (line_with 2 5 (slave_5 2)) no_items)))) ≡ Err (Open 2 TwiceAddress)
unfolding rack_on_literals
master_with_the_slaves_address = refl

-- the configuration `c101` ends within its identifier
pub cut_configuration :
    rack_of_document (Some (file (item (line_with 1 2 (table (member (codes "address") (integer (pos 5))
    (member (codes "cfg") (string (codes "c101"))
    (member (codes "ident") (integer (pos 1)) no_members))))) no_items)))
    ≡ Err (Open 1 BadCfg)
unfolding rack_on_literals
cut_configuration = refl

-- ---- each key

-- `[[line.slave]]` with each key, and this device
abbrev whole_slave : Data → Data
whole_slave device =
    table (member (codes "address") (integer (pos 5))
    (member (codes "cfg") (array (item (string (codes "21")) (item (string (codes "11")) no_items)))
    (member (codes "device") device
    (member (codes "failsafe") (boolean true)
    (member (codes "freeze") (boolean false)
    (member (codes "ident") (integer (pos 1))
    (member (codes "lockers") (array (item (integer (pos 2)) (item (integer (pos 1)) no_items)))
    (member (codes "readers") (array (item (integer (pos 1)) (item (integer (pos 1)) no_items)))
    (member (codes "sync") (boolean true)
    (member (codes "user_max") (integer (pos 0)) no_members))))))))))

-- one `[[line]]` with each key, and these workers and this device
abbrev whole_file : ℕ → Data → Members
whole_file workers device =
    member (codes "line") (array (item (table (member (codes "capacity") (integer (pos 2))
    (member (codes "listen") (integer (pos 65535))
    (member (codes "masters") (array (item (integer (pos 1)) (item (integer (pos 2)) no_items)))
    (member (codes "number") (integer (pos 1))
    (member (codes "operator") (integer (pos 0))
    (member (codes "slave") (array (item (whole_slave device) no_items)) no_members))))))) no_items))
    (member (codes "workers") (integer (pos workers)) no_members)

abbrev whole_line : LineDescription
whole_line = record {
  line = record {
    number = 1;
    capacity = 2;
    masters = 1 ∷ 2 ∷ [];
    slaves = record {
      address = 5;
      ident = 1;
      cfgs = record { items = record { items = 0x21 ∷ [] } ∷ record { items = 0x11 ∷ [] } ∷ [] };
      sync = true;
      freeze = false;
      user_max = 0;
      device = Mirror;
      lists = record { lockers = Some (record { items = 2 ∷ 1 ∷ [] }); readers = Some (record { items = 1 ∷ 1 ∷ [] }) };
      failsafe = true;
    } ∷ [];
  };
  listen = Some 65535;
  operator = Some 0;
}

pub each_key : rack_of (whole_file 32 (string (codes "mirror"))) ≡ Ok (record { workers = 32; lines = whole_line ∷ [] })
unfolding rack_on_literals
each_key = refl

pub no_worker : rack_of_document (Some (whole_file 0 (string (codes "mirror")))) ≡ Err BadKey
unfolding rack_on_literals
no_worker = refl

pub many_workers : rack_of_document (Some (whole_file 33 (string (codes "mirror")))) ≡ Err BadKey
unfolding rack_on_literals
many_workers = refl

pub unknown_device : rack_of_document (Some (whole_file 32 (string (codes "Mirror")))) ≡ Err BadKey
unfolding rack_on_literals
unknown_device = refl

-- ---- configurations

-- `[[line.slave]]` with these configurations
abbrev slave_with_cfg : Data → Data
slave_with_cfg cfg =
    table (member (codes "address") (integer (pos 5))
    (member (codes "cfg") cfg
    (member (codes "ident") (integer (pos 1)) no_members)))

-- the items of an array: this text n times
abbrev texts : ℕ → List ℕ → Items
texts zero text = no_items
texts (suc n) text = item (string text) (texts n text)

pub one_text_in_an_array : slave_at 1 1 (slave_with_cfg (array (texts 1 (codes "2111")))) ≡ slave_at 1 1 (slave_with_cfg (string (codes "2111")))
unfolding rack_on_literals
one_text_in_an_array = refl

pub four_configurations :
    configurations_of (array (item (string []) (texts 3 (codes "21"))))
    ≡ Ok (record { items = [] } ∷ record { items = 0x21 ∷ [] } ∷ record { items = 0x21 ∷ [] } ∷ record { items = 0x21 ∷ [] } ∷ [])
unfolding rack_on_literals
four_configurations = refl

pub no_configuration : slave_at 1 1 (slave_with_cfg (array no_items)) ≡ Err (bad_key (Slave 1 1) (codes "cfg") (Count 1 4))
unfolding rack_on_literals
no_configuration = refl

pub five_configurations : slave_at 1 1 (slave_with_cfg (array (texts 5 (codes "21")))) ≡ Err (bad_key (Slave 1 1) (codes "cfg") (Count 1 4))
unfolding rack_on_literals
five_configurations = refl

pub number_among_configurations : slave_at 1 1 (slave_with_cfg (array (item (string (codes "21")) (item (integer (pos 21)) no_items)))) ≡ Err (bad_key (Slave 1 1) (codes "cfg") NoText)
unfolding rack_on_literals
number_among_configurations = refl

-- ---- lists of masters

-- `[[line.slave]]` with these readers
abbrev slave_with_readers : Data → Data
slave_with_readers readers =
    table (member (codes "address") (integer (pos 5))
    (member (codes "cfg") (string [])
    (member (codes "ident") (integer (pos 1))
    (member (codes "readers") readers no_members))))

pub nobody_reads :
    slave_at 1 1 (slave_with_readers (array no_items))
    ≡ Ok (record {
      address = 5;
      ident = 1;
      cfgs = record { items = record { items = [] } ∷ [] };
      sync = false;
      freeze = false;
      user_max = 237;
      device = Still;
      lists = record { lockers = None; readers = Some (record { items = [] }) };
      failsafe = false;
    })
unfolding rack_on_literals
nobody_reads = refl

pub wide_reader : slave_at 1 1 (slave_with_readers (array (item (integer (pos 256)) no_items))) ≡ Err (bad_key (Slave 1 1) (codes "readers") (NoNumber 0 255))
unfolding rack_on_literals
wide_reader = refl

-- ---- texts

pub no_toml : rack_in (codes "[[line") ≡ Err NotToml
unfolding rack_on_literals
no_toml = refl

pub empty_text : rack_in [] ≡ Err BadKey
unfolding rack_on_literals
empty_text = refl

pub one_text :
    rack_in (codes "[[line]]\nnumber = 1\ncapacity = 1000\nmasters = [1, 2]\n[[line.slave]]\naddress = 5\nident = 0x80A1\ncfg = \"2111\"\nsync = true\nfreeze = true\n")
    ≡ Ok (record { workers = 4; lines = line_1 ∷ [] })
unfolding rack_on_literals
one_text = refl

-- ---- each cause, its place and its text

-- a document is refused for this key in this place with this cause, and this is the text
abbrev Reports : Members → Place → List ℕ → Cause → List ℕ → Type 0
Reports file place key cause text =
    (rack_of file ≡ Err (bad_key place key cause)) × (key_fault_text (record { place = place; key = key; cause = cause }) ≡ text)

-- a file of one line with number 1, capacity 1 and no masters, and these slaves
abbrev file_with_slaves : Items → Members
file_with_slaves slaves =
    file (item (table (member (codes "capacity") (integer (pos 1))
    (member (codes "masters") (array no_items)
    (member (codes "number") (integer (pos 1))
    (member (codes "slave") (array slaves) no_members))))) no_items)

-- the third slave of the second line has `cgf` instead of `cfg`
abbrev misspelt_slave : Data
misspelt_slave =
    table (member (codes "address") (integer (pos 5))
    (member (codes "cgf") (string (codes "2111"))
    (member (codes "ident") (integer (pos 1)) no_members)))

abbrev misspelt_line : Data
misspelt_line =
    table (member (codes "capacity") (integer (pos 1000))
    (member (codes "masters") (array no_items)
    (member (codes "number") (integer (pos 2))
    (member (codes "slave") (array (item (slave_5 1) (item (slave_5 2) (item misspelt_slave no_items)))) no_members))))

pub misspelt_key :
    Reports (file (item (line_with 1 2 (slave_5 1)) (item misspelt_line no_items)))
    (Slave 2 3) (codes "cgf") NoSuchKey (codes "line 2, slave 3, key \"cgf\": no such key")
unfolding rack_on_literals
misspelt_key = (refl, refl)

pub missing_key : Reports no_members Rack (codes "line") Missing (codes "key \"line\": missing")
unfolding rack_on_literals
missing_key = (refl, refl)

pub wide_number :
    Reports (file_with_slaves (item (slave_5 65536) no_items))
    (Slave 1 1) (codes "ident") (NoNumber 0 65535) (codes "line 1, slave 1, key \"ident\": expected a number from 0 to 65535")
unfolding rack_on_literals
wide_number = (refl, refl)

pub negative_number :
    Reports (member (codes "workers") (integer (negsuc 0)) no_members)
    Rack (codes "workers") (NoNumber 1 32) (codes "key \"workers\": expected a number from 1 to 32")
unfolding rack_on_literals
negative_number = (refl, refl)

pub number_for_a_text :
    Reports (file_with_slaves (item (slave_with_cfg (array (item (integer (pos 21)) no_items))) no_items))
    (Slave 1 1) (codes "cfg") NoText (codes "line 1, slave 1, key \"cfg\": expected a text in quotes")
unfolding rack_on_literals
number_for_a_text = (refl, refl)

pub number_for_a_configuration :
    Reports (file_with_slaves (item (slave_with_cfg (integer (pos 21))) no_items))
    (Slave 1 1) (codes "cfg") NoTextOrArray (codes "line 1, slave 1, key \"cfg\": expected a text in quotes or an array of texts")
unfolding rack_on_literals
number_for_a_configuration = (refl, refl)

pub cut_pair :
    Reports (file_with_slaves (item (slave_with_cfg (string (codes "211"))) no_items))
    (Slave 1 1) (codes "cfg") NoHex (codes "line 1, slave 1, key \"cfg\": expected pairs of hex digits without spaces, as \"2111\"")
unfolding rack_on_literals
cut_pair = (refl, refl)

-- n octets 0 in hex text
abbrev zeros : ℕ → List ℕ
zeros zero = []
zeros (suc n) = codes "00" ++ zeros n

pub long_configuration :
    Reports (file_with_slaves (item (slave_with_cfg (string (zeros 245))) no_items))
    (Slave 1 1) (codes "cfg") ManyOctets (codes "line 1, slave 1, key \"cfg\": expected at most 244 octets")
unfolding rack_on_literals
long_configuration = (refl, refl)

pub number_for_a_flag :
    Reports (file_with_slaves (item (table (member (codes "address") (integer (pos 5))
    (member (codes "cfg") (string [])
    (member (codes "ident") (integer (pos 1))
    (member (codes "sync") (integer (pos 1)) no_members))))) no_items))
    (Slave 1 1) (codes "sync") NoFlag (codes "line 1, slave 1, key \"sync\": expected true or false")
unfolding rack_on_literals
number_for_a_flag = (refl, refl)

pub number_for_masters :
    Reports (file (item (table (member (codes "capacity") (integer (pos 1))
    (member (codes "masters") (integer (pos 1))
    (member (codes "number") (integer (pos 1)) no_members)))) no_items))
    (Line 1) (codes "masters") NoArray (codes "line 1, key \"masters\": expected an array")
unfolding rack_on_literals
number_for_masters = (refl, refl)

pub no_line : Reports (file no_items) Rack (codes "line") (Count 1 8) (codes "key \"line\": expected 1 to 8 elements")
unfolding rack_on_literals
no_line = (refl, refl)

pub number_for_a_slave :
    Reports (file_with_slaves (item (slave_5 1) (item (integer (pos 5)) no_items)))
    (Line 1) (codes "slave") NoTable (codes "line 1, key \"slave\": expected a table as each element")
unfolding rack_on_literals
number_for_a_slave = (refl, refl)

pub device_in_capitals :
    Reports (whole_file 32 (string (codes "Mirror")))
    (Slave 1 1) (codes "device") NoDevice (codes "line 1, slave 1, key \"device\": expected \"still\", \"counter\" or \"mirror\"")
unfolding rack_on_literals
device_in_capitals = (refl, refl)

-- the key is `a`, a quotation mark, a line end, a backslash and a u with two dots
pub key_in_one_row : shown (0x61 ∷ 0x22 ∷ 0x0A ∷ 0x5C ∷ 0xC3 ∷ 0xBC ∷ []) ≡ codes "a\\x22\\x0a\\x5c\\xc3\\xbc"
key_in_one_row = refl

pub cause_of_a_text : option_map (λ file. cause_of (rack_of file)) (parse_document (codes "colour = 1\n")) ≡ Some (Some (codes "key \"colour\": no such key"))
unfolding rack_on_literals chars osa_from osa_row cost_at
cause_of_a_text = refl

-- ---- the key that an unknown one may stand for

pub one_letter_more : suggested_key Rack (codes "lines") NoSuchKey ≡ Some (codes "line")
unfolding chars osa_from osa_row cost_at
one_letter_more = refl

pub swapped_letters : suggested_key (Slave 1 1) (codes "idnet") NoSuchKey ≡ Some (codes "ident")
unfolding chars osa_from osa_row cost_at
swapped_letters = refl

pub two_edits : suggested_key Rack (codes "wrokres") NoSuchKey ≡ Some (codes "workers")
unfolding chars osa_from osa_row cost_at
two_edits = refl

pub two_edits_of_a_short_key : suggested_key (Slave 1 1) (codes "cxx") NoSuchKey ≡ None
unfolding chars osa_from osa_row cost_at
two_edits_of_a_short_key = refl

pub no_suggestion_for_a_known_key : suggested_key Rack (codes "line") Missing ≡ None
no_suggestion_for_a_known_key = refl

pub third_row : row_at (codes "a = 1\nb = 2\n[[line") 15 ≡ 3
third_row = refl
