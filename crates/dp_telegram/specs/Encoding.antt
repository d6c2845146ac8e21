-- helper
-- The head of a text, as it is written. No public clause cites this module.
use Rattle.std.specs.Prelude.{ℕ, ◌+◌, ◌==◌, if◌then◌else◌, List, [], ◌∷◌}
use Rattle.dp_telegram.specs.FrameText.{sd1, sd2}

-- what stands before DA: SD1 without a data unit, SD2 with the length twice if there is one
abbrev pub head_text : ℕ → List ℕ
head_text data_length =
    if data_length == 0 then sd1 ∷ [] else sd2 ∷ (data_length + 3) ∷ (data_length + 3) ∷ sd2 ∷ []
