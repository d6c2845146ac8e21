-- detail
-- The octets of a telegram, as rows (own).
use Rattle.std.specs.Prelude.{codes, ℕ, List, [], ◌∷◌, ◌++◌, Option, Some, None}
use Rattle.dp_telegram.specs.declared.frame.Frame.{Frame}
use Rattle.dp_telegram.specs.FrameText.{frame_of}
use Rattle.explain_octets.specs.Words.{hex_text}
use Rattle.explain_octets.specs.Contents.{contents_text}

-- a row after seven spaces; nothing if there is none
abbrev pub row_where : Option (List ℕ) → List ℕ
row_where None = []
row_where (Some text) = codes "       " ++ text ++ codes "\n"

-- the row of octets that are no frame; nothing if there are none
abbrev pub unread_row : List ℕ → List ℕ
unread_row [] = []
unread_row (octet ∷ octets) = codes "       octets      " ++ hex_text (octet ∷ octets) ++ codes "\n"

-- the row of the octets of a request: the data of a telegram, or all octets if they are no frame
abbrev pub sent_row_by : Option Frame → List ℕ → List ℕ
sent_row_by None octets = unread_row octets
sent_row_by (Some frame) octets = row_where (contents_text octets)

abbrev pub sent_row : List ℕ → List ℕ
sent_row octets = sent_row_by (frame_of octets) octets
