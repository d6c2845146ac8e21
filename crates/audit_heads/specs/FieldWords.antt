-- detail
-- The words of rows: how a value is written as one word, and which value a word is (own).
use Rattle.std.specs.Prelude.{codes, ℕ, ◌==◌, Bool, true, false, not, if◌then◌else◌, List, [], ◌∷◌, Option, Some, None, option_map}
use Rattle.std.specs.Fmt.{decimal}
use Rattle.dp_sap.specs.declared.state.State.{State}
use Rattle.dp_sap.specs.declared.state.State.TheVariants.{WaitPrm, WaitCfg, DataExch}
use Rattle.dp_sap.specs.Names.{state_name}
use Rattle.dp_text.specs.Numbers.{number_to}
use Rattle.dp_text.specs.Words.{same_text}
use Rattle.dp_text.specs.Events.{first_with_text}

-- the greatest numbers of 32 and of 64 bits
abbrev pub most_32 : ℕ
most_32 = 4294967295

abbrev pub most_64 : ℕ
most_64 = 18446744073709551615

-- a number, or this name if there is none
abbrev pub optional_word : List ℕ → Option ℕ → List ℕ
optional_word name None = name
optional_word name (Some number) = decimal number

abbrev pub optional_of : List ℕ → ℕ → List ℕ → Option (Option ℕ)
optional_of name most word = if same_text word name then Some None else option_map Some (number_to most word)

-- the names for no number: of a master, a configuration and a time; and of a watchdog that does not run
abbrev pub none_word : List ℕ
none_word = codes "none"

abbrev pub off_word : List ℕ
off_word = codes "off"

-- flags: for each its letter if it is set, and `-` if it is not
abbrev pub flags_word : List ℕ → List Bool → List ℕ
flags_word letters [] = []
flags_word [] (flag ∷ flags) = []
flags_word (letter ∷ letters) (flag ∷ flags) = (if flag then letter else 45) ∷ flags_word letters flags

-- the octet of a flag that is set
abbrev pub is_letter : ℕ → Bool
is_letter octet = not (octet == 45)

-- the state of a slave
abbrev pub all_states : List State
all_states = WaitPrm ∷ WaitCfg ∷ DataExch ∷ []

abbrev pub state_of_word : List ℕ → Option State
state_of_word = first_with_text state_name all_states

-- a frame count bit
abbrev pub bit_word : Bool → List ℕ
bit_word true = codes "1"
bit_word false = codes "0"

abbrev pub bit_of_word : List ℕ → Option Bool
bit_of_word = first_with_text bit_word (true ∷ false ∷ [])

-- whether the line is halted
abbrev pub halted_word : Bool → List ℕ
halted_word true = codes "halted"
halted_word false = codes "running"

abbrev pub halted_of_word : List ℕ → Option Bool
halted_of_word = first_with_text halted_word (true ∷ false ∷ [])
