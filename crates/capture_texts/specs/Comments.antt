-- detail
-- The comments of packets (own).
use Rattle.std.specs.Prelude.{codes, ℕ, if◌then◌else◌, List, [], ◌∷◌, ◌++◌, drop}
use Rattle.std.specs.Fmt.{decimal}
use Rattle.std.specs.List.{flat_map}
use Rattle.dp_responder.specs.Rules.{rule_name}
use Rattle.dp_line.specs.declared.event.Event.{Event}
use Rattle.dp_line.specs.declared.event.Event.TheVariants.{Request, Operator}
use Rattle.dp_line.specs.declared.event.Outcome.{Outcome}
use Rattle.dp_line.specs.declared.event.Outcome.TheVariants.{Reply, Silence, Spread, Released, Done, Refused}
use Rattle.dp_text.specs.Words.{same_text, words_of}

-- the first row of an explanation
abbrev pub first_of : List (List ℕ) → List ℕ
first_of [] = []
first_of (row ∷ rows) = row

-- a word after a space; nothing if the word is empty, as between two spaces
abbrev pub spaced_word : List ℕ → List ℕ
spaced_word [] = []
spaced_word (octet ∷ octets) = 32 ∷ octet ∷ octets

abbrev pub spaced : List (List ℕ) → List ℕ
spaced words = flat_map spaced_word words

-- what a row of an explanation says of the result, by the label that stands after seven spaces: the sentence; for a request to all slaves also
-- the answer of each slave, after `slave` and its address
abbrev pub result_in_words : List (List ℕ) → List ℕ
result_in_words [] = []
result_in_words (label ∷ words) =
    if same_text label (codes "result") then spaced words
    else if same_text label (codes "slave") then spaced_word label ++ spaced words
    else []

abbrev pub result_in_row : List ℕ → List ℕ
result_in_row row = result_in_words (words_of (drop 7 row))

-- the answer to a request in one word: its rule, if one rule answered it
abbrev pub answer_word : Outcome → List ℕ
answer_word (Reply reply rule) = rule_name rule
answer_word (Silence rule) = rule_name rule
answer_word (Spread pairs) = codes "Spread"
answer_word (Released addresses) = codes "Released"
answer_word Done = codes "Done"
answer_word (Refused fault) = codes "Refused"

-- the front of a comment: `place N RULE` for a request; for an event of the operator `place` and the first row of its explanation, which begins
-- with N
abbrev pub comment_front : ℕ → Event → Outcome → List ℕ → List ℕ
comment_front place (Request master octets) outcome head = codes "place " ++ decimal place ++ codes " " ++ answer_word outcome
comment_front place (Operator op) outcome head = codes "place" ++ spaced (words_of head)

-- the comment of an entry, by the rows of its explanation
abbrev pub comment_of : ℕ → Event → Outcome → List (List ℕ) → List ℕ
comment_of place event outcome rows =
    comment_front place event outcome (first_of rows) ++ codes ":" ++ flat_map result_in_row (drop 1 rows)
