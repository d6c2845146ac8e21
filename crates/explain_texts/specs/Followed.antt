-- detail
-- What is reported of the rows of an audit text that are followed one after another, and with which fault that ends (own).
use Rattle.std.specs.Prelude.{◌≡◌, ℕ, ◌+◌, ◌==◌, if◌then◌else◌, List, [], ◌∷◌, ◌++◌, length, Option, Some, None, Result, Ok, Err}
use Rattle.dp_line.specs.declared.event.Event.{Event}
use Rattle.dp_line.specs.World.{Description}
use Rattle.dp_text.specs.Words.{lines_of}
use Rattle.dp_audit.specs.declared.fault.AuditFault.{AuditFault}
use Rattle.dp_audit.specs.declared.fault.AuditFault.TheVariants.{BadLine, NotThePolicy}
use Rattle.dp_audit.specs.Check.{Judged, bad, not_the_policy, right, checked, is_accepted_header, judged_line, places_of_lines}
use Rattle.explain_texts.specs.declared.choice.Choice.{Choice}
use Rattle.explain_texts.specs.declared.follow_fault.FollowFault.{FollowFault}
use Rattle.explain_texts.specs.declared.follow_fault.FollowFault.TheVariants as faults
use Rattle.explain_texts.specs.declared.hold.Hold.{Hold}
use Rattle.explain_texts.specs.Holds.{holds_lasting}
use Rattle.explain_texts.specs.Known.{KnownView, first_known}
use Rattle.explain_texts.specs.Explained.{reported_row, known_behind, ended_by_row, explained, summary_of}
use Rattle.explain_texts.specs.Reported.{Reported, reports_verdict}
use Rattle.explain_texts.specs.Reports.{Reports, ReportsPrefix, Takes}

-- ---- one row

-- a follower: what is known after the right rows so far, and the fault of the first wrong row
pub record FollowerView : Type 0 where
  pub known : KnownView
  pub fault : Option AuditFault

-- no row was wrong
abbrev pub following : KnownView → FollowerView
following known = record { known = known; fault = None }

-- the event of a row that is judged so, if the row is right
abbrev pub right_event : Judged → Option Event
right_event bad = None
right_event not_the_policy = None
right_event (right event) = Some event

-- the fault of a row that is judged so, with its number in the text: the header is row 1, and the first entry row 2
abbrev pub judged_fault : ℕ → Judged → Option AuditFault
judged_fault entries bad = Some (BadLine (entries + 2))
judged_fault entries not_the_policy = Some (NotThePolicy (entries + 2))
judged_fault entries (right event) = None

-- no event is taken after a wrong row
abbrev pub event_unless : Option AuditFault → Judged → Option Event
event_unless (Some fault) judged = None
event_unless None judged = right_event judged

-- the first wrong row gives the fault
abbrev pub first_wrong : Option AuditFault → ℕ → Judged → Option AuditFault
first_wrong (Some fault) entries judged = Some fault
first_wrong None entries judged = judged_fault entries judged

-- a row is judged on the line after the right rows before it
abbrev pub judged_next : FollowerView → List ℕ → Judged
judged_next follower row = judged_line follower.known.context.world row

-- the event that is taken from a row
abbrev pub event_taken : FollowerView → List ℕ → Option Event
event_taken follower row = event_unless follower.fault (judged_next follower row)

abbrev pub after_row : FollowerView → List ℕ → FollowerView
after_row follower row = record {
  known = known_behind follower.known (event_taken follower row);
  fault = first_wrong follower.fault follower.known.context.world.count (judged_next follower row);
}

-- what is reported of a row
abbrev pub facts_of_row : Choice → FollowerView → List ℕ → List Reported
facts_of_row choice follower row = reported_row choice follower.known (event_taken follower row)

-- the holds that the event of a row ended
abbrev pub holds_of_row : FollowerView → List ℕ → List Hold
holds_of_row follower row = ended_by_row follower.known.context.world (event_taken follower row)

-- ---- what a call leaves of a receiver

-- all facts of a right row were taken, or a first part of them if the call ended early
abbrev pub LeavesRow : {S : Type 0} → Takes S → List Reported → S → S → Result (Unit {0}) FollowFault → Type 0
LeavesRow takes facts old new (Ok done) = Reports takes old new facts
LeavesRow takes facts old new (Err (faults.Wrong fault)) = ⊥
LeavesRow takes facts old new (Err (faults.Explain fault)) = ReportsPrefix takes old new facts

-- of a wrong row, and of a row after it, nothing is reported: the fault of the first wrong one is returned
abbrev pub FollowsRow : {S : Type 0} → Takes S → List Reported → Option AuditFault → S → S → Result (Unit {0}) FollowFault → Type 0
FollowsRow takes facts None old new result = LeavesRow takes facts old new result
FollowsRow takes facts (Some fault) old new result = (result ≡ Err (faults.Wrong fault)) × (new ≡ old)

-- ---- rows

-- what is reported of rows, which holds they ended, and what a follower is after them
pub record Followed : Type 0 where
  pub reported : List Reported
  pub ended : List Hold
  pub last : FollowerView

-- rows that are followed one after another, until the first wrong one: nothing is reported after that
abbrev pub followed : Choice → FollowerView → List (List ℕ) → Followed
followed choice follower [] = record { reported = []; ended = []; last = follower }
followed choice follower (row ∷ rows) = record {
  reported = facts_of_row choice follower row ++ (followed choice (after_row follower row) rows).reported;
  ended = holds_of_row follower row ++ (followed choice (after_row follower row) rows).ended;
  last = (followed choice (after_row follower row) rows).last;
}

-- ---- a text

-- the rows that have their LF, of the lines of a text: all but what follows the last LF
abbrev pub whole_rows : List (List ℕ) → List (List ℕ)
whole_rows [] = []
whole_rows (last ∷ []) = []
whole_rows (row ∷ next ∷ rows) = row ∷ whole_rows (next ∷ rows)

-- the rows of a text that are followed: those after an accepted header
abbrev pub entry_rows : Description → List (List ℕ) → List (List ℕ)
entry_rows line [] = []
entry_rows line (header ∷ rows) = if is_accepted_header line header then whole_rows rows else []

-- before the first entry of a text of these lines
abbrev pub first_follower : Description → List (List ℕ) → FollowerView
first_follower line lines = following (first_known line (places_of_lines line lines))

abbrev pub followed_lines : Choice → Description → List (List ℕ) → Followed
followed_lines choice line lines = followed choice (first_follower line lines) (entry_rows line lines)

abbrev pub followed_text : Choice → Description → List ℕ → Followed
followed_text choice line text = followed_lines choice line (lines_of text)

-- the holds and the counts of the rows that were right
abbrev pub followed_summary : Description → List Hold → KnownView → Reported
followed_summary line ended known = summary_of (ended ++ holds_lasting known.context.world line.slaves) known

-- what follows the last entry: the summary, and the verdict
abbrev pub ending_facts : Description → List Hold → KnownView → Result ℕ AuditFault → List Reported
ending_facts line ended known verdict = followed_summary line ended known ∷ reports_verdict verdict ∷ []

-- what follows the last LF, of the lines of a text
abbrev pub last_line : List (List ℕ) → List ℕ
last_line [] = []
last_line (last ∷ []) = last
last_line (row ∷ next ∷ rows) = last_line (next ∷ rows)

-- the verdict on rows: the fault of the first wrong one; if all were right, their number, but nothing may follow the last LF
abbrev pub verdict_by : Option AuditFault → ℕ → List ℕ → Result ℕ AuditFault
verdict_by (Some fault) entries last = Err fault
verdict_by None entries last = if length last == 0 then Ok entries else Err (BadLine (entries + 2))

abbrev pub verdict_at : FollowerView → List ℕ → Result ℕ AuditFault
verdict_at follower last = verdict_by follower.fault follower.known.context.world.count last

-- the verdict on the lines of a text; the header has to be accepted, and to have its LF
abbrev pub followed_verdict : Choice → Description → List (List ℕ) → Result ℕ AuditFault
followed_verdict choice line [] = Err (BadLine 1)
followed_verdict choice line (header ∷ []) = Err (BadLine 1)
followed_verdict choice line (header ∷ next ∷ rows) =
    if is_accepted_header line header
    then verdict_at (followed choice (first_follower line (header ∷ next ∷ rows)) (whole_rows (next ∷ rows))).last (last_line (next ∷ rows))
    else Err (BadLine 1)

-- the explanation of a text is what is reported of its rows until the first wrong one, then the summary of the right ones, then the verdict
abbrev pub IsExplainedByItsRows : Type 0
IsExplainedByItsRows =
    (choice : Choice) (line : Description) (text : List ℕ)
    → explained line text choice
    ≡ (followed_text choice line text).reported
    ++ ending_facts line (followed_text choice line text).ended (followed_text choice line text).last.known (checked line text)

-- the verdict on a text is that of its rows
abbrev pub HasTheVerdictOfItsRows : Type 0
HasTheVerdictOfItsRows = (choice : Choice) (line : Description) (text : List ℕ) → checked line text ≡ followed_verdict choice line (lines_of text)
