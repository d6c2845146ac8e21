-- detail
-- What a writer has after a call that writes to it (own).
use Rattle.std.specs.Prelude.{◌≡◌, ℕ, List, ◌++◌, Option}
use Rattle.std.specs.Io.KnownBytes.{Appends}

-- known bytes grow by a prefix of the text
abbrev pub WritesPrefix : Option (List ℕ) → Option (List ℕ) → List ℕ → Type 0
WritesPrefix old new text = (front back : List ℕ) × (text ≡ front ++ back) × Appends old new front

-- the number of the fault of a text that is not written whole
abbrev pub write_fault_code : ℕ
write_fault_code = 1
