-- detail
-- Lines of standard input as texts (own).
use Rattle.std.specs.Prelude.{codes, ℕ, nat_le, if◌then◌else◌, List, [], ◌∷◌, ◌++◌, Option, Some, None, option_map}
use Rattle.std.specs.Fmt.{decimal}
use Rattle.dp_text.specs.Numbers.{number_to}
use Rattle.dp_text.specs.Words.{same_text, words_of}
use Rattle.cable_faults.specs.declared.order.Line.{Line}
use Rattle.cable_faults.specs.declared.order.Line.TheVariants.{Off, On, Faults, Clear}
use Rattle.cable_faults.specs.declared.order.Order.{Order}
use Rattle.cable_faults.specs.declared.order.OrderKind.{OrderKind}
use Rattle.cable_faults.specs.declared.order.OrderKind.TheVariants.{Lose, Spoil, Cut, Late}

-- ---- how a line is read

-- the address that is the only word
abbrev pub address_of_words : List (List ℕ) → Option ℕ
address_of_words (address ∷ []) = number_to 126 address
address_of_words other = None

-- a number of replies, 1 to 1,000,000
abbrev pub at_least_one : Option ℕ → Option ℕ
at_least_one None = None
at_least_one (Some count) = if nat_le 1 count then Some count else None

abbrev pub count_in : List ℕ → Option ℕ
count_in word = at_least_one (number_to 1000000 word)

-- the milliseconds that are the only word
abbrev pub milliseconds_of_words : List (List ℕ) → Option ℕ
milliseconds_of_words (milliseconds ∷ []) = number_to 60000 milliseconds
milliseconds_of_words other = None

abbrev pub short_kind_of : List ℕ → Option OrderKind
short_kind_of word =
    if same_text word (codes "lose") then Some Lose
    else if same_text word (codes "spoil") then Some Spoil
    else if same_text word (codes "cut") then Some Cut
    else None

abbrev pub short_kind_of_words : List ℕ → List (List ℕ) → Option OrderKind
short_kind_of_words word [] = short_kind_of word
short_kind_of_words word (other ∷ others) = None

-- the kind of an order, by its first word and the words behind the number of replies
abbrev pub kind_of_words : List ℕ → List (List ℕ) → Option OrderKind
kind_of_words word words =
    if same_text word (codes "late") then option_map Late (milliseconds_of_words words) else short_kind_of_words word words

-- an order none of whose replies has come
abbrev pub order_by : Option ℕ → Option ℕ → Option OrderKind → Option Order
order_by None count kind = None
order_by (Some slave) None kind = None
order_by (Some slave) (Some count) None = None
order_by (Some slave) (Some count) (Some kind) = Some (record { kind = kind; slave = slave; count = count; left = count })

abbrev pub order_of_words : List ℕ → List (List ℕ) → Option Order
order_of_words word [] = None
order_of_words word (slave ∷ []) = None
order_of_words word (slave ∷ count ∷ words) = order_by (number_to 126 slave) (count_in count) (kind_of_words word words)

abbrev pub clear_of_words : List (List ℕ) → Option Line
clear_of_words [] = Some Clear
clear_of_words (other ∷ others) = None

-- what a line asks for, by its words
abbrev pub line_of_words : List (List ℕ) → Option Line
line_of_words [] = None
line_of_words (word ∷ words) =
    if same_text word (codes "off") then option_map Off (address_of_words words)
    else if same_text word (codes "on") then option_map On (address_of_words words)
    else if same_text word (codes "clear") then clear_of_words words
    else option_map Faults (order_of_words word words)

abbrev pub line_of : List ℕ → Option Line
line_of line = line_of_words (words_of line)

-- ---- how a line is written

abbrev pub kind_text : OrderKind → List ℕ
kind_text Lose = codes "lose "
kind_text Spoil = codes "spoil "
kind_text Cut = codes "cut "
kind_text (Late milliseconds) = codes "late "

abbrev pub milliseconds_text : OrderKind → List ℕ
milliseconds_text Lose = []
milliseconds_text Spoil = []
milliseconds_text Cut = []
milliseconds_text (Late milliseconds) = codes " " ++ decimal milliseconds

abbrev pub order_text : Order → List ℕ
order_text order = kind_text order.kind ++ decimal order.slave ++ codes " " ++ decimal order.count ++ milliseconds_text order.kind

abbrev pub line_text : Line → List ℕ
line_text (Off address) = codes "off " ++ decimal address
line_text (On address) = codes "on " ++ decimal address
line_text (Faults order) = order_text order
line_text Clear = codes "clear"
