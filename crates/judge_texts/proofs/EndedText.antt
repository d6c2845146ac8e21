-- What is written of a text that was judged, from its findings and its ending.
use Rattle.std.proofs.Common.{◌≡◌, ℕ, Bool, List, [], ◌++◌, Option, Some, None, IfSome, Result, Ok, Err, refl, sym, ap, subst}
use Rattle.std.specs.Prelude.{option_map}
use Rattle.std.specs.Io.KnownBytes.{Appends, Keeps}
use Rattle.std.proofs.lemmas.List.{append-nil}
use Rattle.dp_line.specs.World.{Description}
use Rattle.dp_text.specs.Words.{lines_of}
use Rattle.dp_text.specs.Writes.{WritesPrefix}
use Rattle.dp_audit.specs.declared.fault.AuditFault.{AuditFault}
use Rattle.dp_audit.specs.Check.{checked}
use Rattle.dp_audit.proofs.Written.{appends_more, more_prefix, none_written}
use Rattle.explain_texts.specs.declared.explain_fault.ExplainFault.{ExplainFault}
use Rattle.explain_texts.specs.declared.explain_fault.ExplainFault.TheVariants as explains
use Rattle.explain_texts.specs.declared.read_fault.ReadFault.{ReadFault}
use Rattle.explain_texts.specs.declared.read_fault.ReadFault.TheVariants as faults
use Rattle.explain_texts.specs.declared.rows_fault.RowsFault.{RowsFault}
use Rattle.explain_texts.specs.declared.rows_fault.RowsFault.TheVariants as rows
use Rattle.explain_texts.specs.Explained.{Leaves}
use Rattle.explain_texts.specs.ExplainedRows.{IsReadable, Reads}
use Rattle.explain_texts.proofs.Writing.{front_cut}
use Rattle.explain_texts.specs.TextRows.{TextRead, octets_read}
use Rattle.rack_file.specs.declared.fault.RackFault.{RackFault}
use Rattle.rack_file.specs.Rack.{RackDescription}
use Rattle.rack_script.specs.declared.run_fault.RunFault.{RunFault}
use Rattle.rack_script.specs.declared.run_fault.RunFault.TheVariants as runs
use Rattle.rack_script.specs.ReadFaults.{run_fault_of_rows}
use Rattle.judge_findings.specs.declared.seat.Seat.{Seat}
use Rattle.judge_findings.specs.Lines.{LineJudgeView}
use Rattle.judge_texts.specs.declared.choice.JudgeChoice.{JudgeChoice}
use Rattle.judge_texts.specs.Judging.{JudgedText, ending_in, exit_status, fails, judged, judged_by, judged_on, judged_rows}
use Rattle.judge_texts.specs.RowsJudged.{AreJudged, EndsText, JudgesEntries, JudgesRows}
use Rattle.judge_texts.specs.Runs.{AppendsPrefix, Judges, RunsJudge}

-- ---- findings, and then an ending

abbrev pub behind : List ℕ → Option (List ℕ) → Option (List ℕ)
behind findings ending = option_map (λ ending. findings ++ ending) ending

whole_by : (findings : List ℕ) (ending : Option (List ℕ)) (old new newer : Option (List ℕ)) → Appends old new findings → IfSome (behind [] ending) (Appends new newer) → IfSome (behind findings ending) (Appends old newer)
whole_by findings None old new newer written more = tt
whole_by findings (Some ending) old new newer written more = appends_more old new newer findings ending written more

prefix_by : (findings : List ℕ) (ending : Option (List ℕ)) (old new newer : Option (List ℕ)) → Appends old new findings → IfSome (behind [] ending) (WritesPrefix new newer)
    → IfSome (behind findings ending) (WritesPrefix old newer)
prefix_by findings None old new newer written cut = tt
prefix_by findings (Some ending) old new newer written cut =
    more_prefix old new newer findings ending [] (findings ++ ending) written cut (ap (λ (t : List ℕ). findings ++ t) (append-nil ending))

then_judges : (choice : JudgeChoice) (findings : List ℕ) (seats : List Seat) (verdict : Result ℕ AuditFault) (row : List ℕ) (old new newer : Option (List ℕ)) (result : Result ℕ RowsFault) → Appends old new findings
    → JudgesRows (judged_by choice [] seats verdict) row new newer result → JudgesRows (judged_by choice findings seats verdict) row old newer result
then_judges choice findings seats verdict row old new newer (Ok status) written ends =
    (ends.0, whole_by findings (ending_in choice.form choice.rules.now choice.least seats verdict) old new newer written ends.1, ends.2)
then_judges choice findings seats verdict row old new newer (Err (rows.Explain fault)) written ends =
    prefix_by findings (ending_in choice.form choice.rules.now choice.least seats verdict) old new newer written ends
then_judges choice findings seats verdict row old new newer (Err (rows.Read faults.OutOfMemory)) written ends =
    prefix_by findings (ending_in choice.form choice.rules.now choice.least seats verdict) old new newer written ends
then_judges choice findings seats verdict row old new newer (Err (rows.Read faults.CannotRead)) written ends =
    prefix_by findings (ending_in choice.form choice.rules.now choice.least seats verdict) old new newer written ends
then_judges choice findings seats verdict row old new newer (Err (rows.Read faults.NotText)) written ends =
    (prefix_by findings (ending_in choice.form choice.rules.now choice.least seats verdict) old new newer written ends.0, ends.1)

-- all rows are judged, and then the text is ended
pub ends_judged : (choice : JudgeChoice) (line : Description) (text row : List ℕ) (verdict : Result ℕ AuditFault) (judges : LineJudgeView) (old new newer : Option (List ℕ)) (result : Result ℕ RowsFault)
    → AreJudged choice line text verdict judges old new → JudgesRows (judged_by choice [] judges.seats verdict) row new newer result → JudgesRows (judged choice line text) row old newer result
ends_judged choice line text row verdict judges old new newer result are ends =
    let all = judged_rows choice line (lines_of text) in
    subst (λ (v : Result ℕ AuditFault). JudgesRows (judged_by choice all.findings all.judges.seats v) row old newer result) are.verdict_is
    (subst (λ (j : LineJudgeView). JudgesRows (judged_by choice all.findings j.seats verdict) row old newer result) are.judges_are
    (then_judges choice all.findings judges.seats verdict row old new newer result are.findings ends))

-- ---- it ends early

cut_by : (findings : List ℕ) (ending : Option (List ℕ)) (old new : Option (List ℕ)) → WritesPrefix old new findings → IfSome (behind findings ending) (WritesPrefix old new)
cut_by findings None old new cut = tt
cut_by findings (Some ending) old new cut = front_cut old new findings ending cut

cut_is : (choice : JudgeChoice) (line : Description) (text : List ℕ) (old new : Option (List ℕ)) → WritesPrefix old new (judged_rows choice line (lines_of text)).findings → AppendsPrefix (judged choice line text) old new
cut_is choice line text old new cut =
    let all = judged_rows choice line (lines_of text) in
    cut_by all.findings (ending_in choice.form choice.rules.now choice.least all.judges.seats (checked line text)) old new cut

pub cut_judged : (choice : JudgeChoice) (line : Description) (text row : List ℕ) (judges : LineJudgeView) (old new : Option (List ℕ)) (fault : RowsFault) → JudgesEntries choice line text judges old new (Err fault)
    → JudgesRows (judged choice line text) row old new (Err fault)
cut_judged choice line text row judges old new (rows.Explain fault) cut = cut_is choice line text old new cut
cut_judged choice line text row judges old new (rows.Read faults.OutOfMemory) cut = cut_is choice line text old new cut
cut_judged choice line text row judges old new (rows.Read faults.CannotRead) cut = cut_is choice line text old new cut
cut_judged choice line text row judges old new (rows.Read faults.NotText) never = absurd never

-- ---- nothing is written

nothing_by : (written : Option (List ℕ)) (old : Option (List ℕ)) → IfSome written (WritesPrefix old old)
nothing_by None old = tt
nothing_by (Some text) old = none_written old text

pub nothing_judged : (text : JudgedText) (old : Option (List ℕ)) → AppendsPrefix text old old
nothing_judged text old = nothing_by text.written old

pub not_readable : (text : JudgedText) (verdict : Result ℕ AuditFault) (row : List ℕ) (old : Option (List ℕ)) (fault : ReadFault) → Reads verdict row (Err fault) → JudgesRows text row old old (Err (rows.Read fault))
not_readable text verdict row old faults.OutOfMemory reads = nothing_judged text old
not_readable text verdict row old faults.CannotRead reads = nothing_judged text old
not_readable text verdict row old faults.NotText reads = (nothing_judged text old, reads)

abbrev unread : ReadFault → Result Bool ReadFault
unread fault = Err fault

-- nothing is written if the first row is not read; a read never finds that a row is not text
pub not_read : (text : JudgedText) (row : List ℕ) (old : Option (List ℕ)) (fault : ReadFault) → (unread fault ≡ unread faults.NotText → ⊥) → JudgesRows text row old old (Err (rows.Read fault))
not_read text row old faults.OutOfMemory named = nothing_judged text old
not_read text row old faults.CannotRead named = nothing_judged text old
not_read text row old faults.NotText named = absurd (named refl)

-- ---- the fault of the run

run_by : (text : JudgedText) (row : List ℕ) (old new : Option (List ℕ)) (fault : RowsFault) → JudgesRows text row old new (Err fault) → Judges text row old new (Err (run_fault_of_rows fault))
run_by text row old new (rows.Explain explains.OutOfMemory) cut = cut
run_by text row old new (rows.Explain explains.WriteFault) cut = cut
run_by text row old new (rows.Read faults.OutOfMemory) cut = cut
run_by text row old new (rows.Read faults.CannotRead) cut = cut
run_by text row old new (rows.Read faults.NotText) cut = cut

pub run_ended : (text : JudgedText) (row : List ℕ) (old new : Option (List ℕ)) (fault : RowsFault) (result : RunFault) → result ≡ run_fault_of_rows fault → JudgesRows text row old new (Err fault) → Judges text row old new (Err result)
run_ended text row old new fault result is cut = subst (λ (r : RunFault). Judges text row old new (Err r)) (sym is) (run_by text row old new fault cut)

kept : (old : Option (List ℕ)) → Keeps old old
kept None = tt
kept (Some octets) = refl

-- memory may run out before the rack is read
pub no_memory : (rack : Result RackDescription RackFault) (text : TextRead) (choice : JudgeChoice) (old : Option (List ℕ)) → RunsJudge rack text choice old old (Err runs.OutOfMemory)
no_memory (Ok rack) text choice old = nothing_judged (judged_on choice rack (octets_read text)) old
no_memory (Err fault) text choice old = kept old

-- ---- only the ending

alone_by : (P : List ℕ → Type 0) (ending : Option (List ℕ)) → IfSome ending P → IfSome (behind [] ending) P
alone_by P None holds = tt
alone_by P (Some ending) holds = holds

pub ended_judged : (choice : JudgeChoice) (seats : List Seat) (verdict : Result ℕ AuditFault) (row : List ℕ) (old new : Option (List ℕ)) (status : ℕ) → IsReadable verdict row
    → EndsText (exit_status (fails choice seats) verdict) (ending_in choice.form choice.rules.now choice.least seats verdict) old new (Ok status) → JudgesRows (judged_by choice [] seats verdict) row old new (Ok status)
ended_judged choice seats verdict row old new status readable ends = (ends.0, alone_by (Appends old new) (ending_in choice.form choice.rules.now choice.least seats verdict) ends.1, readable)

pub cut_ended : (choice : JudgeChoice) (seats : List Seat) (verdict : Result ℕ AuditFault) (row : List ℕ) (old new : Option (List ℕ)) (status : ℕ) (fault : ExplainFault)
    → EndsText status (ending_in choice.form choice.rules.now choice.least seats verdict) old new (Err fault) → JudgesRows (judged_by choice [] seats verdict) row old new (Err (rows.Explain fault))
cut_ended choice seats verdict row old new status fault ends = alone_by (WritesPrefix old new) (ending_in choice.form choice.rules.now choice.least seats verdict) ends

-- ---- the ending of a form

pub ends_well : (ending : Option (List ℕ)) (status found : ℕ) (old new : Option (List ℕ)) (done : Unit {0}) → found ≡ status → IfSome ending (λ text. Leaves text old new (Ok done)) → EndsText status ending old new (Ok found)
ends_well None status found old new done is leaves = (is, tt)
ends_well (Some text) status found old new done is leaves = (is, leaves)

pub ends_badly : (ending : Option (List ℕ)) (status : ℕ) (old new : Option (List ℕ)) (fault : ExplainFault) → IfSome ending (λ text. Leaves text old new (Err fault)) → EndsText status ending old new (Err fault)
ends_badly None status old new fault leaves = tt
ends_badly (Some text) status old new fault leaves = leaves
