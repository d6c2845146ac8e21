-- helper
-- What a filter of entries still gives (own).
use Rattle.std.specs.Prelude.{codes, ◌≡◌, ℕ, List, [], ◌++◌, drop, Option, Some, None, option_map, ◌⊎◌, ⊤}
use Rattle.dp_audit.specs.AuditText.{line_text}
use Rattle.audit_parts.specs.declared.entry_filter.EntryFilter.{EntryFilter}
use Rattle.audit_parts.specs.declared.entry_filter.Given.{Given}
use Rattle.audit_parts.specs.declared.entry_filter.Given.TheVariants as gives
use Rattle.audit_parts.specs.EntryText.{entries_given, wrong_row}

-- what is given, if the row that was taken last is this one
abbrev pub text_given : Given → List ℕ → List ℕ
text_given gives.Row row = row
text_given gives.WrongRow row = wrong_row
text_given gives.BegunRow row = codes "0"

-- what was taken and not given yet
abbrev pub waiting_of : EntryFilter → List ℕ
waiting_of filter = drop filter.given (text_given filter.kind filter.last.items)

-- what is still given, if the reader has this left
abbrev pub given_with : EntryFilter → List ℕ → List ℕ
given_with filter behind = waiting_of filter ++ entries_given filter.check (filter.row.items ++ behind)

-- what is still given, if it is known what the reader had at first, and what it has left
abbrev pub still_given : Option (List ℕ) → EntryFilter → Option (List ℕ) → Option (List ℕ)
still_given None filter behind = None
still_given (Some text) filter behind = option_map (λ rest. given_with filter rest) behind

-- a row has its LF, or nothing is left behind it
abbrev pub EndsRow : List ℕ → List ℕ → Type 0
EndsRow row behind = ((front : List ℕ) × (row ≡ line_text front)) ⊎ (behind ≡ [])

-- .. if it is known what the reader had and has left
abbrev pub EndsKnown : Option (List ℕ) → Option (List ℕ) → List ℕ → Type 0
EndsKnown None left_after row = ⊤
EndsKnown (Some left) None row = ⊤
EndsKnown (Some left) (Some behind) row = EndsRow row behind
