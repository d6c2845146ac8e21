-- detail
-- The number of a new audit text: above that of each text of its line (own).
use Rattle.std.specs.Prelude.{◌≡◌, ℕ, ◌+◌, ◌<◌, ◌≤◌, List, All, Contains, Option, Some, None}
use Rattle.audit_files.specs.declared.audit_name.AuditName.{AuditName}

-- the number is at least that of each text of the line among these names
abbrev pub IsAtLeast : ℕ → List AuditName → ℕ → Type 0
IsAtLeast line names number = All (λ name. name.line ≡ line → name.number ≤ number) names

-- one of these names is that of a text of the line with this number
abbrev pub IsNumberIn : ℕ → List AuditName → ℕ → Type 0
IsNumberIn line names number = (name : AuditName) × Contains names name × (name.line ≡ line) × (name.number ≡ number)

-- the number is the highest one of a text of the line among these names, or 0 if the line has no text
pub record IsHighest (line : ℕ) (names : List AuditName) (number : ℕ) : Type 0 where
  pub least : IsAtLeast line names number
  pub used : 0 < number → IsNumberIn line names number

-- the number is one above the highest one; there is none if the highest one is that of 32 bits
pub record IsOneAbove (line : ℕ) (names : List AuditName) (number : ℕ) : Type 0 where
  pub highest : ℕ
  pub is_highest : IsHighest line names highest
  pub above : number ≡ highest + 1

abbrev pub IsNextNumber : ℕ → List AuditName → Option ℕ → Type 0
IsNextNumber line names (Some number) = IsOneAbove line names number
IsNextNumber line names None = IsHighest line names 4294967295

-- no other of these names is that of a file of the same text
abbrev pub IsAloneIn : List AuditName → AuditName → Type 0
IsAloneIn names own = All (λ name. name.line ≡ own.line → name.number ≡ own.number → name.part ≡ own.part) names

-- one of these names is that of another file of the same text
abbrev pub IsBesideAnother : List AuditName → AuditName → Type 0
IsBesideAnother names own =
    (name : AuditName) × Contains names name × (name.line ≡ own.line) × (name.number ≡ own.number) × (name.part ≡ own.part → ⊥)
