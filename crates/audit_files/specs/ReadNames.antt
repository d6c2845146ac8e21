-- detail
-- Reading the names of the files of audit texts (own).
use Rattle.std.specs.Prelude.{◌≡◌, ℕ, ◌<◌, ◌≤◌, ◌^◌, List, ◌++◌, Option, Some, None, codes}
use Rattle.std.specs.Fmt.{decimal}
use Rattle.audit_files.specs.declared.audit_name.AuditName.{AuditName}
use Rattle.audit_files.specs.AuditPaths.{leading_zeros}

-- What is read from a text: the value, of those that are possible, for which exactly this text is written; or none if it is written for none of them.
abbrev pub IsReadFrom : {A : Type 0} → (A → List ℕ) → (A → Type 0) → List ℕ → Option A → Type 0
IsReadFrom written IsPossible text (Some value) = IsPossible value × (text ≡ written value)
IsReadFrom written IsPossible text None = (value : _) → IsPossible value → text ≡ written value → ⊥

-- the number of a text or of a part: from 1 on, in 32 bits
abbrev pub IsFileNumber : ℕ → Type 0
IsFileNumber number = (1 ≤ number) × (number < 2 ^ 32)

-- the number of a part, of at least six digits
abbrev pub part_digits : ℕ → List ℕ
part_digits part = leading_zeros part ++ decimal part

-- the number of a text, and of its part if the text has parts
abbrev pub IsTextNumber : ℕ × Option ℕ → Type 0
IsTextNumber (number, None) = IsFileNumber number
IsTextNumber (number, Some part) = IsFileNumber number × IsFileNumber part

abbrev pub text_number_text : ℕ × Option ℕ → List ℕ
text_number_text (number, None) = decimal number
text_number_text (number, Some part) = decimal number ++ codes "." ++ part_digits part

-- the number of a line, as it is in the name of a file
abbrev pub IsLineNumber : ℕ → Type 0
IsLineNumber number = (1 ≤ number) × (number < 2 ^ 8)

-- the numbers in the name of a file
abbrev pub IsFileName : AuditName → Type 0
IsFileName name = IsLineNumber name.line × IsTextNumber (name.number, name.part)

abbrev pub numbers_text : AuditName → List ℕ
numbers_text name = decimal name.line ++ codes "-" ++ text_number_text (name.number, name.part)
