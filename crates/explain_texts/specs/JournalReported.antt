-- promise
-- The explanation of a legal journal, defined only by its entries: no text is read, and no event is replayed (own).
use Rattle.std.specs.Prelude.{◌≡◌, ℕ, List, [], ◌∷◌, ◌++◌, length, None, Ok}
use Rattle.dp_line.specs.World.{Description, World, opening_fault}
use Rattle.dp_audit.specs.declared.entry.Entry.{Entry}
use Rattle.dp_audit.specs.Legal.{after_entries, after_entry}
use Rattle.dp_audit.specs.Check.{IsAuditOf, places_of_header}
use Rattle.explain_texts.specs.declared.choice.Choice.{Choice}
use Rattle.explain_texts.specs.declared.hold.Hold.{Hold}
use Rattle.explain_texts.specs.Holds.{holds_ended, holds_lasting}
use Rattle.explain_texts.specs.Known.{KnownView, first_known, first_world, known_with}
use Rattle.explain_texts.specs.Explained.{chosen_entry, explained, summary_of}
use Rattle.explain_texts.specs.Reported.{Reported, reports_verdict}

-- what is known after an entry
abbrev pub known_behind_entry : KnownView → Entry → KnownView
known_behind_entry known entry = known_with known (after_entry known.context.world entry) entry.place entry.event entry.outcome

-- what is reported of the entries, one after another, each with the recorded place, event and outcome
abbrev pub reported_entries : Choice → KnownView → List Entry → List Reported
reported_entries choice known [] = []
reported_entries choice known (entry ∷ entries) =
    chosen_entry choice known.context (after_entry known.context.world entry) entry.place entry.event entry.outcome
    ++ reported_entries choice (known_behind_entry known entry) entries

abbrev pub known_behind_entries : KnownView → List Entry → KnownView
known_behind_entries known [] = known
known_behind_entries known (entry ∷ entries) = known_behind_entries (known_behind_entry known entry) entries

-- the holds that the entries ended, in the order in which they ended
abbrev pub ended_by_entries : World → List Entry → List Hold
ended_by_entries world [] = []
ended_by_entries world (entry ∷ entries) =
    holds_ended world (after_entry world entry) entry.place entry.event entry.outcome ++ ended_by_entries (after_entry world entry) entries

abbrev pub holds_of_entries : Description → ℕ → List Entry → List Hold
holds_of_entries line places entries =
    ended_by_entries (first_world line places) entries ++ holds_lasting (after_entries (first_world line places) entries) line.slaves

-- for a line with this number of places: the chosen entries, the summary, and that the text is legal
abbrev pub journal_reported : Description → ℕ → List Entry → Choice → List Reported
journal_reported line places entries choice =
    reported_entries choice (first_known line places) entries
    ++ summary_of (holds_of_entries line places entries) (known_behind_entries (first_known line places) entries) ∷ reports_verdict (Ok (length entries)) ∷ []

-- the explanation of a legal text of a line that can be opened is the explanation of its entries
abbrev pub IsExplainedByItsEntries : Type 0
IsExplainedByItsEntries =
    (line : Description) (text : List ℕ) (count : ℕ) (choice : Choice) → opening_fault line ≡ None → (audit : IsAuditOf line text count)
    → explained line text choice ≡ journal_reported line (places_of_header line audit.header) audit.entries choice
