-- detail
-- The parts that the rows of an explanation are made of (own).
use Rattle.std.specs.Prelude.{codes, ℕ, ◌-◌, ◌*◌, ◌/◌, ◌%◌, ◌==◌, if◌then◌else◌, List, [], ◌∷◌, ◌++◌, length, replicate, Option, Some, None}
use Rattle.std.specs.List.{flat_map}
use Rattle.std.specs.Fmt.{decimal}
use Rattle.dp_sap.specs.declared.state.State.{State}
use Rattle.dp_sap.specs.declared.state.State.TheVariants.{WaitPrm, WaitCfg, DataExch}
use Rattle.explain_octets.specs.Words.{capital_pair, hex_text}
use Rattle.explain_octets.specs.Points.{dsap_text, points, service_in}

-- ---- columns

abbrev pub spaces : ℕ → List ℕ
spaces count = replicate count 32

-- a text at the left and at the right of a column of this width; a longer text is shown whole
abbrev pub at_left : ℕ → List ℕ → List ℕ
at_left width text = text ++ spaces (width - length text)

abbrev pub at_right : ℕ → List ℕ → List ℕ
at_right width text = spaces (width - length text) ++ text

-- ---- numbers

-- octets in hex
abbrev pub octets_words : List ℕ → List ℕ
octets_words [] = codes "none"
octets_words (octet ∷ octets) = hex_text (octet ∷ octets)

-- an ident number as four hex digits, high octet first
abbrev pub ident_words : ℕ → List ℕ
ident_words ident = capital_pair (ident / 256 % 256) ++ capital_pair (ident % 256)

abbrev pub number_behind : ℕ → List ℕ
number_behind number = codes ", " ++ decimal number

-- numbers, separated by commas
abbrev pub numbers_words : List ℕ → List ℕ
numbers_words [] = codes "none"
numbers_words (number ∷ numbers) = decimal number ++ flat_map number_behind numbers

-- a count with its word, singular or plural
abbrev pub counted_words : ℕ → List ℕ → List ℕ → List ℕ
counted_words count one several = decimal count ++ codes " " ++ (if count == 1 then one else several)

abbrev pub count_words : ℕ → List ℕ
count_words count = counted_words count (codes "octet") (codes "octets")

-- a time in units of 10 ms, in milliseconds
abbrev pub time_words : ℕ → List ℕ
time_words units = decimal (10 * units) ++ codes " ms"

-- ---- a slave

-- a state by its name in the standard (IEC 61158-6-3, slave state machine)
abbrev pub state_words : State → List ℕ
state_words WaitPrm = codes "Wait_Prm"
state_words WaitCfg = codes "Wait_Cfg"
state_words DataExch = codes "Data_Exch"

abbrev pub holder_words : Option ℕ → List ℕ
holder_words None = codes "held by nobody"
holder_words (Some master) = codes "held by master " ++ decimal master

-- the entry since which something holds, at the end of a sentence
abbrev pub since_words : ℕ → List ℕ
since_words place = codes " since entry " ++ decimal place ++ codes "."

-- a point by its name (IEC 61158-6-3, service access points); the default point is that of Data_Exchange
abbrev pub named_words : Option (List ℕ) → ℕ → List ℕ
named_words None number = dsap_text number
named_words (Some name) number = name

abbrev pub point_words : Option ℕ → List ℕ
point_words None = codes "Data_Exchange"
point_words (Some number) = named_words (service_in points number) number
