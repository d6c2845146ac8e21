-- detail
-- Judging the masters of an audit text: what is written of it, and the exit status (own).
use Rattle.std.specs.Prelude.{codes, ℕ, ◌+◌, ◌&&◌, ◌||◌, not, if◌then◌else◌, Bool, true, false, List, [], ◌∷◌, ◌++◌, find, fold, Option, Some, None, option_map, Result, Ok, Err}
use Rattle.std.specs.List.{flat_map, list_any}
use Rattle.dp_line.specs.declared.event.Event.{Event}
use Rattle.dp_line.specs.Steps.{step}
use Rattle.dp_line.specs.World.{Description, World}
use Rattle.dp_text.specs.Words.{lines_of}
use Rattle.dp_audit.specs.declared.fault.AuditFault.{AuditFault}
use Rattle.dp_audit.specs.declared.fault.AuditFault.TheVariants as faults
use Rattle.dp_audit.specs.Check.{Judged, bad, not_the_policy, right, checked, judged_line, places_of_lines}
use Rattle.explain_texts.specs.Explained.{verdict_status, verdict_text}
use Rattle.explain_texts.specs.Followed.{entry_rows}
use Rattle.explain_texts.specs.Json.{verdict_json}
use Rattle.explain_texts.specs.Known.{first_world}
use Rattle.rack_file.specs.Rack.{LineDescription, RackDescription}
use Rattle.rack_script.specs.Checks.{line_named}
use Rattle.judge_rules.specs.declared.entry.Entry.{Entry}
use Rattle.judge_rules.specs.declared.rule.JudgeRule.{JudgeRule}
use Rattle.judge_rules.specs.Judges.{JudgeView}
use Rattle.judge_rules.specs.Reading.{entry_read}
use Rattle.judge_findings.specs.declared.seat.Seat.{Seat}
use Rattle.judge_findings.specs.Counts.{has_error}
use Rattle.judge_findings.specs.Findings.{finding_lines_of, finding_rows_of}
use Rattle.judge_findings.specs.Lines.{LineJudgeView, first_line_judge, is_seat_of, taken_at, time_with}
use Rattle.judge_findings.specs.Summary.{lines_of_seat, rows_of_seat}
use Rattle.judge_findings.specs.Tested.{is_untested, untested_lines, untested_rows}
use Rattle.judge_findings.specs.declared.tested.Least.{Least}
use Rattle.judge_texts.specs.declared.choice.Form.{Form}
use Rattle.judge_texts.specs.declared.choice.Form.TheVariants as forms
use Rattle.judge_texts.specs.declared.choice.JudgeChoice.{JudgeChoice}

-- ---- one entry

-- the masters that are judged: only the chosen one, or all masters of the line
abbrev pub judged_masters : Option ℕ → List ℕ → List ℕ
judged_masters (Some master) masters = master ∷ []
judged_masters None masters = masters

-- the findings of an entry by these rules; JUnit XML has none before its summary
abbrev pub findings_in : Form → List JudgeRule → JudgeView → Entry → ℕ → ℕ → List ℕ
findings_in forms.Rows rules judge entry place master = flat_map (finding_rows_of judge entry place master) rules
findings_in forms.Json rules judge entry place master = flat_map (finding_lines_of judge entry place master) rules
findings_in forms.Junit rules judge entry place master = []

-- the findings of the next entry of a master, by its judge; none if the master is not judged
abbrev pub findings_by : JudgeChoice → Option Seat → Entry → ℕ → ℕ → List ℕ
findings_by choice None entry place master = []
findings_by choice (Some seat) entry place master = findings_in choice.form choice.rules.now seat.judge entry place master

-- the findings of a master's entry at this place, by the judges before it; an event of the operator is no entry of a master
abbrev pub findings_of : JudgeChoice → LineJudgeView → ℕ → Option (ℕ × Entry) → List ℕ
findings_of choice judges place None = []
findings_of choice judges place (Some sent) = findings_by choice (find (is_seat_of sent.0) judges.seats) sent.1 place sent.0

-- the judges after an event: that of its master has taken the entry; an event of the operator may pass time
abbrev pub judges_after : JudgeChoice → LineJudgeView → ℕ → Event → Option (ℕ × Entry) → LineJudgeView
judges_after choice judges place event None = record judges { time = time_with judges.time event }
judges_after choice judges place event (Some sent) = record judges { seats = taken_at sent.0 sent.1 place choice.rules.now judges.seats }

-- ---- rows

-- what the rows so far leave: the line and the judges after the right rows, the findings of these, and whether a row was wrong
pub record JudgedRows : Type 0 where
  pub world : World
  pub judges : LineJudgeView
  pub findings : List ℕ
  pub wrong : Bool

-- what a master sent by an event, with the answer of the line
abbrev pub entry_of : JudgedRows → Event → Option (ℕ × Entry)
entry_of rows event = entry_read event (step rows.world event).answer.outcome rows.judges.time

-- the event takes the next place of the line; its findings are those by the judges before it
abbrev pub after_event : JudgeChoice → JudgedRows → Event → JudgedRows
after_event choice rows event = record {
  world = (step rows.world event).world;
  judges = judges_after choice rows.judges (rows.world.count + 1) event (entry_of rows event);
  findings = rows.findings ++ findings_of choice rows.judges (rows.world.count + 1) (entry_of rows event);
  wrong = false;
}

abbrev pub after_checked : JudgeChoice → JudgedRows → Judged → JudgedRows
after_checked choice rows bad = record rows { wrong = true }
after_checked choice rows not_the_policy = record rows { wrong = true }
after_checked choice rows (right event) = after_event choice rows event

-- a row after the rows so far; a row behind a wrong one changes nothing
abbrev pub after_row : JudgeChoice → JudgedRows → List ℕ → JudgedRows
after_row choice rows row = if rows.wrong then rows else after_checked choice rows (judged_line rows.world row)

-- before the first row of a line with this number of places
abbrev pub no_rows : JudgeChoice → Description → ℕ → JudgedRows
no_rows choice line places = record {
  world = first_world line places;
  judges = first_line_judge (judged_masters choice.master line.masters) choice.retries;
  findings = [];
  wrong = false;
}

-- the rows of these lines of a text: those behind an accepted header that have their LF
abbrev pub judged_rows : JudgeChoice → Description → List (List ℕ) → JudgedRows
judged_rows choice line lines = fold (after_row choice) (no_rows choice line (places_of_lines line lines)) (entry_rows line lines)

-- ---- a text

-- what is written behind the findings: the summary, and then the verdict as a check or an explanation writes it. The XML is not defined here
abbrev pub summary_rows : List JudgeRule → Option Least → List Seat → List ℕ
summary_rows rules least seats = codes "findings\n" ++ flat_map (rows_of_seat rules) seats ++ untested_rows least seats

abbrev pub summary_lines : List JudgeRule → Option Least → List Seat → List ℕ
summary_lines rules least seats = flat_map (lines_of_seat rules) seats ++ untested_lines least seats

-- what is untested is only written of a legal text
abbrev pub least_if : Result ℕ AuditFault → Least → Option Least
least_if (Ok entries) least = Some least
least_if (Err fault) least = None

abbrev pub ending_in : Form → List JudgeRule → Least → List Seat → Result ℕ AuditFault → Option (List ℕ)
ending_in forms.Rows rules least seats verdict = Some (summary_rows rules (least_if verdict least) seats ++ verdict_text verdict)
ending_in forms.Json rules least seats verdict = Some (summary_lines rules (least_if verdict least) seats ++ verdict_json verdict)
ending_in forms.Junit rules least seats verdict = None

-- a judged master broke a rule whose severity is error
abbrev pub has_errors : List JudgeRule → List Seat → Bool
has_errors rules seats = list_any (λ seat. has_error seat.counts rules) seats

-- there is an error, or something is untested and that is not allowed
abbrev pub fails : JudgeChoice → List Seat → Bool
fails choice seats = has_errors choice.rules.now seats || not choice.allows_untested && is_untested choice.least seats

-- 1 if it fails, or the text is not legal; otherwise 0
abbrev pub exit_status : Bool → Result ℕ AuditFault → ℕ
exit_status true verdict = 1
exit_status false verdict = verdict_status verdict

-- a text that was judged: the verdict on it, what is written, if that is defined, and the exit status
pub record JudgedText : Type 0 where
  pub verdict : Result ℕ AuditFault
  pub written : Option (List ℕ)
  pub status : ℕ

abbrev pub judged_by : JudgeChoice → List ℕ → List Seat → Result ℕ AuditFault → JudgedText
judged_by choice findings seats verdict = record {
  verdict = verdict;
  written = option_map (λ ending. findings ++ ending) (ending_in choice.form choice.rules.now choice.least seats verdict);
  status = exit_status (fails choice seats) verdict;
}

-- an audit text of a line
abbrev pub judged : JudgeChoice → Description → List ℕ → JudgedText
judged choice line text =
    judged_by choice (judged_rows choice line (lines_of text)).findings (judged_rows choice line (lines_of text)).judges.seats (checked line text)

-- an audit text is judged on the line that it names; if it names none, its first line is bad, and no master is judged
abbrev pub judged_by_line : JudgeChoice → Option LineDescription → List ℕ → JudgedText
judged_by_line choice None text = judged_by choice [] [] (Err (faults.BadLine 1))
judged_by_line choice (Some line) text = judged choice line.line text

abbrev pub judged_on : JudgeChoice → RackDescription → List ℕ → JudgedText
judged_on choice rack text = judged_by_line choice (line_named rack.lines (lines_of text)) text
