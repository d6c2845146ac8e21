-- detail
-- A slave as a table of a rack file (own).
use Rattle.std.specs.Prelude.{codes, ℕ, ◌/◌, ◌%◌, Bool, true, false, List, [], ◌∷◌, ◌++◌, length}
use Rattle.std.specs.Fmt.{decimal}
use Rattle.hex.specs.Hex.{encode_lower}
use Rattle.gsd_files.specs.declared.facts.LeftOut.{LeftOut}
use Rattle.gsd_files.specs.declared.plugged.PluggedSlave.{PluggedSlave}

abbrev pub truth_text : Bool → List ℕ
truth_text true = codes "true\n"
truth_text false = codes "false\n"

-- a row with a truth value
abbrev pub truth_row : List ℕ → Bool → List ℕ
truth_row key value = key ++ truth_text value

abbrev pub ident_row : ℕ → List ℕ
ident_row ident = codes "ident = 0x" ++ encode_lower (ident / 256 % 256 ∷ ident % 256 ∷ []) ++ codes "\n"

abbrev pub cfg_row : List ℕ → List ℕ
cfg_row octets = codes "cfg = \"" ++ encode_lower octets ++ codes "\"\n"

abbrev pub user_max_row : ℕ → List ℕ
user_max_row most = codes "user_max = " ++ decimal most ++ codes "\n"

abbrev pub user_count_row : ℕ → List ℕ
user_count_row count = codes "# user parameters of a master: " ++ decimal count ++ codes " octets, by default\n"

abbrev pub user_default_row : List ℕ → List ℕ
user_default_row octets = codes "# user_default = \"" ++ encode_lower octets ++ codes "\"\n"

-- the number of default octets of the user parameters and these, as comments, if there are any
abbrev pub user_rows : List ℕ → List ℕ
user_rows [] = []
user_rows (octet ∷ octets) = user_count_row (length (octet ∷ octets)) ++ user_default_row (octet ∷ octets)

-- a comment for a kind of rows, if there are any
unfoldable pub left_row : List ℕ → Bool → List ℕ
left_row text false = []
left_row text true = text

unfoldable pub left_rows : LeftOut → List ℕ
left_rows left =
    left_row (codes "# left out: names, ranges and texts of parameters\n") left.parameters
    ++ (left_row (codes "# left out: the diagnosis and its texts\n") left.diagnosis
    ++ left_row (codes "# left out: other keys\n") left.others)

abbrev pub head_rows : List ℕ
head_rows = codes "# choose the address\n[[line.slave]]\naddress = 5\n"

-- the table of a slave, with an address to choose, and what is left out of the GSD file
abbrev pub slave_text : PluggedSlave → List ℕ
slave_text slave =
    head_rows ++ ident_row slave.ident ++ cfg_row slave.octets.items
    ++ truth_row (codes "sync = ") slave.sync ++ truth_row (codes "freeze = ") slave.freeze
    ++ user_max_row slave.user_max ++ truth_row (codes "failsafe = ") slave.failsafe ++ user_rows slave.user.items ++ left_rows slave.left
