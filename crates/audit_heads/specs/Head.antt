-- promise
-- The head of a part of an endless audit text: the world of the line at a place, as rows (own).
use Rattle.std.specs.Prelude.{codes, ℕ, ◌==◌, if◌then◌else◌, List, [], ◌∷◌, length, Option, None, option_map, Result, Ok, Err}
use Rattle.std.specs.Option.{option_and_then}
use Rattle.std.specs.List.{flat_map}
use Rattle.std.specs.Fmt.{decimal}
use Rattle.dp_slave.specs.declared.description.SlaveSpec.{SlaveSpec}
use Rattle.dp_slave.specs.SlaveRecord.{SlaveRecord}
use Rattle.dp_line.specs.World.{Description, World, ascending}
use Rattle.dp_line.specs.Endless.{endless_places}
use Rattle.dp_text.specs.Numbers.{number_to}
use Rattle.audit_heads.specs.declared.running.Running.{Running}
use Rattle.audit_heads.specs.FieldWords.{halted_of_word, halted_word, most_32, most_64, none_word, optional_of, optional_word}
use Rattle.audit_heads.specs.Rows.{Left, and_then, read_row, rows_text, value_of_row}
use Rattle.audit_heads.specs.SlaveRows.{slave_read, slave_rows}

-- what a head says: the world behind the place that it names, and the sum of the ticks until then in units of 10 ms, None before the first tick
pub record Head : Type 0 where
  pub world : World
  pub time : Option ℕ

-- ---- `rack-audit 3 line N from P`

-- the header of a part of the text of the line of this number, behind this place
abbrev pub header_words : ℕ → ℕ → List (List ℕ)
header_words number place =
    codes "rack-audit" ∷ codes "3" ∷ codes "line" ∷ decimal number ∷ codes "from" ∷ decimal place ∷ []

abbrev pub place_in : List (List ℕ) → Option ℕ
place_in (key ∷ version ∷ line ∷ number ∷ from ∷ place ∷ []) = number_to most_32 place
place_in other = None

abbrev pub place_of_row : ℕ → List ℕ → Option ℕ
place_of_row number = value_of_row (header_words number) place_in

-- ---- `line running TIME` or `line halted TIME`

abbrev pub running_words : Running → List (List ℕ)
running_words running = codes "line" ∷ halted_word running.halted ∷ optional_word none_word running.time ∷ []

abbrev pub running_in : List (List ℕ) → Option Running
running_in (key ∷ halted ∷ time ∷ []) =
    option_and_then (λ h. option_map (λ t. record { halted = h; time = t }) (optional_of none_word most_64 time)) (halted_of_word halted)
running_in other = None

abbrev pub running_of_row : List ℕ → Option Running
running_of_row = value_of_row running_words running_in

-- ---- the head

-- the rows of a head: the header, the row of the line, and the rows of each slave
abbrev pub head_rows : ℕ → Head → List (List (List ℕ))
head_rows number head =
    header_words number head.world.count
    ∷ running_words (record { halted = head.world.halted; time = head.time })
    ∷ flat_map slave_rows head.world.slaves

-- the text of a head of the line of this number
unfoldable pub head_text : ℕ → Head → List ℕ
head_text number head = rows_text (head_rows number head)

-- the slaves of these descriptions, read
abbrev pub slaves_read : List ℕ → List SlaveSpec → Left → Result (List SlaveRecord × Left) ℕ
slaves_read masters [] left = Ok ([], left)
slaves_read masters (description ∷ descriptions) left =
    and_then (slave_read masters description left) (λ slave behind.
    and_then (slaves_read masters descriptions behind) (λ others rest.
    Ok (slave ∷ others, rest)))

-- the world of an endless line of this description
abbrev pub head_with : Description → ℕ → Running → List SlaveRecord → Head
head_with line place running slaves = record {
  world = record { masters = line.masters; capacity = endless_places; count = place; halted = running.halted; slaves = slaves };
  time = running.time;
}

-- a head of the line at the beginning of a text, and what is left after it; or the number of the first wrong row
unfoldable pub head_read : Description → List ℕ → Result (Head × Left) ℕ
head_read line text =
    and_then (read_row (place_of_row line.number) (record { number = 1; text = text })) (λ place left_1.
    and_then (read_row running_of_row left_1) (λ running left_2.
    and_then (slaves_read line.masters (ascending line.slaves) left_2) (λ slaves rest.
    Ok (head_with line place running slaves, rest))))

-- nothing may follow
abbrev pub alone : Result (Head × Left) ℕ → Result Head ℕ
alone (Err number) = Err number
alone (Ok read) = if length read.1.text == 0 then Ok read.0 else Err read.1.number

-- the head of the line that has exactly this text, or the number of the first wrong row
unfoldable pub world_in : Description → List ℕ → Result Head ℕ
world_in line text = alone (head_read line text)
