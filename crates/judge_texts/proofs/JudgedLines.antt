-- The rows that were judged so far.
use Rattle.std.proofs.Common.{◌≡◌, ℕ, ◌+◌, Bool, true, false, cond, List, [], ◌∷◌, ◌++◌, Option, Some, None, Result, Ok, Err, refl, sym, ap, subst, ◌∙◌}
use Rattle.std.specs.Io.KnownBytes.{Appends}
use Rattle.std.specs.Prelude.{fold}
use Rattle.std.proofs.lemmas.Bool.{cond-false}
use Rattle.std.proofs.lemmas.List.{append-nil}
use Rattle.std.proofs.lemmas.List.Sums.{fold-append}
use Rattle.dp_line.specs.declared.event.Event.{Event}
use Rattle.dp_line.specs.declared.event.Step.{Step}
use Rattle.dp_line.specs.Steps.{step}
use Rattle.dp_line.specs.World.{Description, World}
use Rattle.dp_text.specs.Words.{lines_of}
use Rattle.dp_text.specs.Writes.{WritesPrefix}
use Rattle.dp_audit.specs.FirstWrong.{HasNoLf}
use Rattle.dp_audit.specs.declared.fault.AuditFault.{AuditFault}
use Rattle.dp_audit.specs.Check.{Judged, bad, not_the_policy, right, checked, is_accepted_header, judged_line, places_of_header}
use Rattle.dp_audit.specs.Checking.{TakesRow}
use Rattle.dp_audit.proofs.Written.{appends_more, front_prefix, more_prefix}
use Rattle.explain_texts.specs.declared.read_fault.ReadFault.{ReadFault}
use Rattle.explain_texts.specs.declared.read_fault.ReadFault.TheVariants as faults
use Rattle.explain_texts.specs.declared.rows_fault.RowsFault.TheVariants as rows
use Rattle.explain_texts.specs.Followed.{whole_rows}
use Rattle.explain_texts.specs.Known.{first_world}
use Rattle.explain_texts.specs.TextRows.{TextRead, lf_if, octets_read}
use Rattle.explain_texts.proofs.ReadLines.{AreRows, last_lines, line_alone, lines_more, rows_before_last, with_row}
use Rattle.explain_texts.proofs.ReadRows.{behind_header, first_is}
use Rattle.judge_rules.specs.Reading.{entry_read}
use Rattle.judge_findings.specs.Lines.{LineJudgeView, first_line_judge}
use Rattle.judge_texts.specs.declared.choice.JudgeChoice.{JudgeChoice}
use Rattle.judge_texts.specs.Judging.{JudgedRows, after_checked, after_event, after_row, findings_of, judged_masters, judged_rows, judges_after, no_rows}
use Rattle.judge_texts.specs.RowsJudged.{AreJudged, JudgesEntries}

-- ---- a text of whole rows

-- the rows behind a header
abbrev pub rows_behind : JudgeChoice → Description → List ℕ → List (List ℕ) → JudgedRows
rows_behind choice line header rows = fold (after_row choice) (no_rows choice line (places_of_header line header)) rows

pub lines_judged : (choice : JudgeChoice) (line : Description) (header : List ℕ) (rows : List (List ℕ)) (last : List ℕ) → is_accepted_header line header ≡ true
    → judged_rows choice line (header ∷ (rows ++ last ∷ [])) ≡ rows_behind choice line header rows
lines_judged choice line header rows last accepted =
    ap (λ (b : Bool). rows_behind choice line header (cond b (whole_rows (rows ++ last ∷ [])) [])) accepted
    ∙ ap (rows_behind choice line header) (rows_before_last rows last)

-- what follows the last LF is not judged
text_judged : (choice : JudgeChoice) (line : Description) (text last : List ℕ) (are : AreRows line text) → HasNoLf last
    → judged_rows choice line (lines_of (text ++ last)) ≡ rows_behind choice line are.header are.rows
text_judged choice line text last are none =
    ap (judged_rows choice line) (last_lines line text last are none) ∙ lines_judged choice line are.header are.rows last are.accepted

row_behind : (choice : JudgeChoice) (line : Description) (header : List ℕ) (rows : List (List ℕ)) (row : List ℕ)
    → rows_behind choice line header (rows ++ row ∷ []) ≡ after_row choice (rows_behind choice line header rows) row
row_behind choice line header rows row = fold-append (after_row choice) (no_rows choice line (places_of_header line header)) rows (row ∷ [])

text_with_row : (choice : JudgeChoice) (line : Description) (text row read : List ℕ) (are : AreRows line text) → HasNoLf row → read ≡ text ++ (row ++ 10 ∷ [])
    → judged_rows choice line (lines_of read) ≡ after_row choice (rows_behind choice line are.header are.rows) row
text_with_row choice line text row read are none all =
    let more = text ++ (row ++ 10 ∷ []) in
    ap (λ (t : List ℕ). judged_rows choice line (lines_of t)) (all ∙ sym (append-nil more))
    ∙ text_judged choice line more [] (with_row line text row are none) tt
    ∙ row_behind choice line are.header are.rows row

-- ---- one row

record IsTaken (world after : World) (row : List ℕ) (event : Event) (answer : Step) : Type 0 where
  right_so : judged_line world row ≡ right event
  left : after ≡ (step world event).world
  answered : answer ≡ (step world event).answer

abbrev yields : Event → Result Event AuditFault
yields event = Ok event

abbrev refuses : AuditFault → Result Event AuditFault
refuses fault = Err fault

same_event : {a b : Event} → yields a ≡ yields b → b ≡ a
same_event e = cc

taken_by : (world after : World) (row : List ℕ) (event : Event) (answer : Step) (judged : Judged) → judged_line world row ≡ judged → TakesRow judged world after answer (Ok event)
    → IsTaken world after row event answer
taken_by world after row event answer bad is takes = absurd cc
taken_by world after row event answer not_the_policy is takes = absurd cc
taken_by world after row event answer (right found) is takes =
    let same : found ≡ event = same_event takes.0 in
    record {
      right_so = is ∙ ap right same;
      left = takes.2 ∙ ap (λ (e : Event). (step world e).world) same;
      answered = takes.3 ∙ ap (λ (e : Event). (step world e).answer) same;
    }

-- right rows
abbrev pub right_rows : World → LineJudgeView → List ℕ → JudgedRows
right_rows world judges findings = record { world = world; judges = judges; findings = findings; wrong = false }

-- the entry of an event, by its answer
abbrev pub findings_at : JudgeChoice → LineJudgeView → ℕ → Event → Step → List ℕ
findings_at choice judges place event answer = findings_of choice judges place (entry_read event answer.outcome judges.time)

event_is : (choice : JudgeChoice) (world new : World) (judges later : LineJudgeView) (findings : List ℕ) (event : Event) (answer : Step) (place : ℕ)
    → new ≡ (step world event).world → answer ≡ (step world event).answer → place ≡ world.count + 1 → later ≡ judges_after choice judges place event (entry_read event answer.outcome judges.time)
    → after_event choice (right_rows world judges findings) event ≡ right_rows new later (findings ++ findings_at choice judges place event answer)
event_is choice world new judges later findings event answer place left answered at after = rw (after, left, answered, at) refl

taken_is : (choice : JudgeChoice) (world new : World) (judges later : LineJudgeView) (findings row : List ℕ) (event : Event) (answer : Step) (place : ℕ)
    → TakesRow (judged_line world row) world new answer (Ok event) → place ≡ world.count + 1 → later ≡ judges_after choice judges place event (entry_read event answer.outcome judges.time)
    → after_row choice (right_rows world judges findings) row ≡ right_rows new later (findings ++ findings_at choice judges place event answer)
taken_is choice world new judges later findings row event answer place takes at after =
    let taken = taken_by world new row event answer (judged_line world row) refl takes in
    ap (after_checked choice (right_rows world judges findings)) taken.right_so
    ∙ event_is choice world new judges later findings event answer place taken.left taken.answered at after

-- a row that is refused changes no finding and no judge
refused_is : (choice : JudgeChoice) (rows : JudgedRows) (judged : Judged) (world new : World) (answer : Step) (fault : AuditFault) → TakesRow judged world new answer (refuses fault)
    → after_checked choice rows judged ≡ record rows { wrong = true }
refused_is choice rows bad world new answer fault takes = refl
refused_is choice rows not_the_policy world new answer fault takes = refl
refused_is choice rows (right found) world new answer fault takes = absurd (let never : refuses fault ≡ yields found = takes.0 in cc)

-- a row may add findings
grows_by : (choice : JudgeChoice) (rows : JudgedRows) (judged : Judged) → (rest : List ℕ) × (rows.findings ++ rest ≡ (after_checked choice rows judged).findings)
grows_by choice rows bad = ([], append-nil rows.findings)
grows_by choice rows not_the_policy = ([], append-nil rows.findings)
grows_by choice rows (right event) = (_, refl)

-- ---- the rows so far

-- the rows of a text are right, and their findings were written
pub record SoFar (choice : JudgeChoice) (line : Description) (text : List ℕ) (world : World) (judges : LineJudgeView) (old now : Option (List ℕ)) : Type 0 where
  pub are : AreRows line text
  pub findings : List ℕ
  pub rows_are : rows_behind choice line are.header are.rows ≡ right_rows world judges findings
  pub written : Appends old now findings

nothing_appended : (old : Option (List ℕ)) → Appends old old []
nothing_appended None = tt
nothing_appended (Some octets) = sym (append-nil octets)

-- behind the header
pub header_judged : (choice : JudgeChoice) (line : Description) (text : TextRead) (world : World) (judges : LineJudgeView) (old : Option (List ℕ)) (first : text.past ≡ []) (whole : text.whole ≡ true) (none : HasNoLf text.row)
    (accepted : is_accepted_header line text.row ≡ true) → world ≡ first_world line (places_of_header line text.row) → judges ≡ first_line_judge (judged_masters choice.master line.masters) choice.retries
    → SoFar choice line (octets_read text) world judges old old
header_judged choice line text world judges old first whole none accepted opened unused = record {
  are = behind_header line text first whole none accepted;
  findings = [];
  rows_are = rw (opened, unused) refl;
  written = nothing_appended old;
}

-- one more right row
pub row_judged : (choice : JudgeChoice) (line : Description) (text row : List ℕ) (world new : World) (judges later : LineJudgeView) (answer : Step) (event : Event) (place : ℕ) (old now newer : Option (List ℕ))
    → SoFar choice line text world judges old now → HasNoLf row → TakesRow (judged_line world row) world new answer (Ok event) → place ≡ world.count + 1
    → later ≡ judges_after choice judges place event (entry_read event answer.outcome judges.time) → Appends now newer (findings_at choice judges place event answer)
    → SoFar choice line (text ++ (row ++ 10 ∷ [])) new later old newer
row_judged choice line text row world new judges later answer event place old now newer so none takes at after written = record {
  are = with_row line text row so.are none;
  findings = so.findings ++ findings_at choice judges place event answer;
  rows_are =
      row_behind choice line so.are.header so.are.rows row
      ∙ ap (λ (r : JudgedRows). after_row choice r row) so.rows_are
      ∙ taken_is choice world new judges later so.findings row event answer place takes at after;
  written = appends_more old now newer so.findings (findings_at choice judges place event answer) so.written written;
}

-- ---- at the end

are_judged : (choice : JudgeChoice) (line : Description) (read : List ℕ) (verdict : Result ℕ AuditFault) (judges : LineJudgeView) (old now : Option (List ℕ)) (r : JudgedRows) → verdict ≡ checked line read
    → judged_rows choice line (lines_of read) ≡ r → judges ≡ r.judges → Appends old now r.findings → AreJudged choice line read verdict judges old now
are_judged choice line read verdict judges old now r judged is known written = record {
  verdict_is = judged;
  judges_are = known ∙ sym (ap (λ (r : JudgedRows). r.judges) is);
  findings = subst (λ (r : JudgedRows). Appends old now r.findings) (sym is) written;
}

part_judged : (choice : JudgeChoice) (line : Description) (text row read : List ℕ) (world : World) (judges : LineJudgeView) (old now : Option (List ℕ)) → (so : SoFar choice line text world judges old now) → HasNoLf row → read ≡ text ++ row
    → judged_rows choice line (lines_of read) ≡ right_rows world judges so.findings
part_judged choice line text row read world judges old now so none all =
    ap (λ (t : List ℕ). judged_rows choice line (lines_of t)) all ∙ text_judged choice line text row so.are none ∙ so.rows_are

-- it ends behind the right rows
pub text_ended : (choice : JudgeChoice) (line : Description) (text row read : List ℕ) (world : World) (judges : LineJudgeView) (verdict : Result ℕ AuditFault) (old now : Option (List ℕ))
    → SoFar choice line text world judges old now → HasNoLf row → verdict ≡ checked line read → read ≡ text ++ row → AreJudged choice line read verdict judges old now
text_ended choice line text row read world judges verdict old now so none judged all =
    are_judged choice line read verdict judges old now (right_rows world judges so.findings) judged (part_judged choice line text row read world judges old now so none all) refl so.written

with_row_judged : (choice : JudgeChoice) (line : Description) (text row read : List ℕ) (world : World) (judges : LineJudgeView) (old now : Option (List ℕ)) → (so : SoFar choice line text world judges old now) → HasNoLf row
    → read ≡ text ++ (row ++ 10 ∷ []) → judged_rows choice line (lines_of read) ≡ after_checked choice (right_rows world judges so.findings) (judged_line world row)
with_row_judged choice line text row read world judges old now so none all =
    text_with_row choice line text row read so.are none all ∙ ap (λ (r : JudgedRows). after_row choice r row) so.rows_are

-- it ends at a wrong row
pub text_wrong : (choice : JudgeChoice) (line : Description) (text row read : List ℕ) (world new : World) (judges : LineJudgeView) (answer : Step) (fault : AuditFault) (verdict : Result ℕ AuditFault) (old now : Option (List ℕ))
    → SoFar choice line text world judges old now → HasNoLf row → TakesRow (judged_line world row) world new answer (Err fault) → verdict ≡ checked line read → read ≡ text ++ (row ++ 10 ∷ [])
    → AreJudged choice line read verdict judges old now
text_wrong choice line text row read world new judges answer fault verdict old now so none takes judged all =
    are_judged choice line read verdict judges old now (record { world = world; judges = judges; findings = so.findings; wrong = true }) judged
    (with_row_judged choice line text row read world judges old now so none all ∙ refused_is choice (right_rows world judges so.findings) (judged_line world row) world new answer fault takes) refl so.written

-- ---- it ends early

-- the findings of a row are not written whole
pub text_cut : (choice : JudgeChoice) (line : Description) (text row read : List ℕ) (world new : World) (judges : LineJudgeView) (answer : Step) (event : Event) (place : ℕ) (old now newer : Option (List ℕ))
    → SoFar choice line text world judges old now → HasNoLf row → TakesRow (judged_line world row) world new answer (Ok event) → place ≡ world.count + 1
    → WritesPrefix now newer (findings_at choice judges place event answer) → read ≡ text ++ (row ++ 10 ∷ []) → WritesPrefix old newer (judged_rows choice line (lines_of read)).findings
text_cut choice line text row read world new judges answer event place old now newer so none takes at cut all =
    let more = findings_at choice judges place event answer in
    let later = judges_after choice judges place event (entry_read event answer.outcome judges.time) in
    subst (λ (r : JudgedRows). WritesPrefix old newer r.findings)
    (sym (with_row_judged choice line text row read world judges old now so none all
    ∙ taken_is choice world new judges later so.findings row event answer place takes at refl))
    (more_prefix old now newer so.findings more [] (so.findings ++ more) so.written cut (ap (λ (t : List ℕ). so.findings ++ t) (append-nil more)))

whole_prefix : (old now : Option (List ℕ)) (text : List ℕ) → Appends old now text → WritesPrefix old now text
whole_prefix old now text written = (text, [], sym (append-nil text), written)

-- a row is not read whole
pub text_unread : (choice : JudgeChoice) (line : Description) (text row read : List ℕ) (whole : Bool) (world : World) (judges : LineJudgeView) (old now : Option (List ℕ)) → SoFar choice line text world judges old now → HasNoLf row
    → read ≡ text ++ (row ++ lf_if whole) → WritesPrefix old now (judged_rows choice line (lines_of read)).findings
text_unread choice line text row read true world judges old now so none all =
    let grown = grows_by choice (right_rows world judges so.findings) (judged_line world row) in
    subst (λ (r : JudgedRows). WritesPrefix old now r.findings) (sym (with_row_judged choice line text row read world judges old now so none all))
    (front_prefix old now so.findings grown.0 _ (whole_prefix old now so.findings so.written) grown.1)
text_unread choice line text row read false world judges old now so none all =
    subst (λ (r : JudgedRows). WritesPrefix old now r.findings)
    (sym (part_judged choice line text row read world judges old now so none (all ∙ ap (λ (r : List ℕ). text ++ r) (append-nil row))))
    (whole_prefix old now so.findings so.written)

abbrev unread : ReadFault → Result Bool ReadFault
unread fault = Err fault

-- a read never finds that a row is not text
pub read_ended : (choice : JudgeChoice) (line : Description) (read : List ℕ) (judges : LineJudgeView) (old new : Option (List ℕ)) (fault : ReadFault) → (unread fault ≡ unread faults.NotText → ⊥)
    → WritesPrefix old new (judged_rows choice line (lines_of read)).findings → JudgesEntries choice line read judges old new (Err (rows.Read fault))
read_ended choice line read judges old new faults.OutOfMemory named cut = cut
read_ended choice line read judges old new faults.CannotRead named cut = cut
read_ended choice line read judges old new faults.NotText named cut = named refl

-- ---- no header

same_either : (is : Bool) → cond {A = List (List ℕ)} is [] [] ≡ []
same_either true = refl
same_either false = refl

part_line : (text : TextRead) → text.past ≡ [] → text.whole ≡ false → HasNoLf text.row → lines_of (octets_read text) ≡ text.row ∷ []
part_line text first begun none = ap lines_of (first_is text false first begun ∙ append-nil text.row) ∙ line_alone text.row none

whole_line : (text : TextRead) → text.past ≡ [] → text.whole ≡ true → HasNoLf text.row → lines_of (octets_read text) ≡ text.row ∷ [] ∷ []
whole_line text first whole none =
    ap lines_of (first_is text true first whole) ∙ lines_more text.row [] ∙ ap (λ (ls : List (List ℕ)). ls ++ [] ∷ []) (line_alone text.row none)

-- no row is judged
pub part_has_none : (choice : JudgeChoice) (line : Description) (text : TextRead) → text.past ≡ [] → text.whole ≡ false → HasNoLf text.row
    → judged_rows choice line (lines_of (octets_read text)) ≡ no_rows choice line (places_of_header line text.row)
part_has_none choice line text first begun none =
    ap (judged_rows choice line) (part_line text first begun none) ∙ ap (rows_behind choice line text.row) (same_either (is_accepted_header line text.row))

pub other_has_none : (choice : JudgeChoice) (line : Description) (text : TextRead) → text.past ≡ [] → text.whole ≡ true → HasNoLf text.row → is_accepted_header line text.row ≡ false
    → judged_rows choice line (lines_of (octets_read text)) ≡ no_rows choice line (places_of_header line text.row)
other_has_none choice line text first whole none other =
    ap (judged_rows choice line) (whole_line text first whole none)
    ∙ ap (rows_behind choice line text.row) (cond-false (is_accepted_header line text.row) (whole_rows ([] ∷ [])) [] other)

pub none_judged : (choice : JudgeChoice) (line : Description) (text : TextRead) (verdict : Result ℕ AuditFault) (judges : LineJudgeView) (old : Option (List ℕ)) → verdict ≡ checked line (octets_read text)
    → judged_rows choice line (lines_of (octets_read text)) ≡ no_rows choice line (places_of_header line text.row) → judges ≡ first_line_judge (judged_masters choice.master line.masters) choice.retries
    → AreJudged choice line (octets_read text) verdict judges old old
none_judged choice line text verdict judges old judged is unused =
    are_judged choice line (octets_read text) verdict judges old old (no_rows choice line (places_of_header line text.row)) judged is unused (nothing_appended old)
