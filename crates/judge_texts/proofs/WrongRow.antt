-- What follows the first wrong row of a text changes nothing of its judgement.
use Rattle.std.proofs.Common.{◌≡◌, ℕ, Bool, true, false, cond, List, [], ◌∷◌, ◌++◌, Result, Ok, refl, sym, ap, subst, ◌∙◌, append_assoc}
use Rattle.std.specs.Prelude.{fold}
use Rattle.std.proofs.lemmas.Bool.{cond-false, cond-true}
use Rattle.std.proofs.lemmas.List.Sums.{fold-append}
use Rattle.dp_line.specs.World.{Description, start_of}
use Rattle.dp_text.specs.Words.{lines_of}
use Rattle.dp_audit.specs.declared.fault.AuditFault.{AuditFault}
use Rattle.dp_audit.specs.declared.fault.AuditFault.TheVariants.{BadLine}
use Rattle.dp_audit.specs.Check.{Judged, bad, not_the_policy, right, checked, checked_from_header, checked_lines, is_accepted_header, judged_line, line_of_header, places_of_header}
use Rattle.explain_texts.specs.Followed.{whole_rows}
use Rattle.explain_texts.proofs.ReadLines.{has_first, lines_more, whole_rows_more}
use Rattle.explain_texts.proofs.RightRows.{checked_on, fails}
use Rattle.explain_texts.proofs.WrongRow.{decides_at_wrong_row}
use Rattle.judge_texts.specs.declared.choice.JudgeChoice.{JudgeChoice}
use Rattle.judge_texts.specs.Judging.{JudgedRows, after_checked, after_event, after_row, judged_by, judged_rows, no_rows}
use Rattle.judge_texts.specs.Laws.{IsJudgedToItsFirstWrongRow}
use Rattle.judge_texts.proofs.JudgedLines.{lines_judged, rows_behind}

-- ---- rows

-- behind a wrong row nothing changes
stays : (choice : JudgeChoice) (rows : JudgedRows) (others : List (List ℕ)) → rows.wrong ≡ true → fold (after_row choice) rows others ≡ rows
stays choice rows [] wrong = refl
stays choice rows (row ∷ others) wrong =
    ap (λ (r : JudgedRows). fold (after_row choice) r others) (cond-true rows.wrong rows (after_checked choice rows (judged_line rows.world row)) wrong) ∙ stays choice rows others wrong

-- a row is wrong, or the check goes on behind it
goes_on : (choice : JudgeChoice) (P : JudgedRows → Type 0) (rows : JudgedRows) (row next : List ℕ) (rest : List (List ℕ)) (fault : AuditFault) (found : Judged) → judged_line rows.world row ≡ found
    → checked_lines rows.world rows.world.count (row ∷ next ∷ rest) ≡ fails fault → ((new : JudgedRows) → new.wrong ≡ true → P new)
    → ((new : JudgedRows) → new.wrong ≡ false → checked_lines new.world new.world.count (next ∷ rest) ≡ fails fault → P new) → P (after_checked choice rows found)
goes_on choice P rows row next rest fault bad is e stop on = stop (record rows { wrong = true }) refl
goes_on choice P rows row next rest fault not_the_policy is e stop on = stop (record rows { wrong = true }) refl
goes_on choice P rows row next rest fault (right event) is e stop on =
    on (after_event choice rows event) refl (sym (checked_on rows.world row next rest event is) ∙ e)

row_goes_on : (choice : JudgeChoice) (P : JudgedRows → Type 0) (rows : JudgedRows) (row next : List ℕ) (rest : List (List ℕ)) (fault : AuditFault) → rows.wrong ≡ false
    → checked_lines rows.world rows.world.count (row ∷ next ∷ rest) ≡ fails fault → ((new : JudgedRows) → new.wrong ≡ true → P new)
    → ((new : JudgedRows) → new.wrong ≡ false → checked_lines new.world new.world.count (next ∷ rest) ≡ fails fault → P new) → P (after_row choice rows row)
row_goes_on choice P rows row next rest fault faultless e stop on =
    subst P (sym (cond-false rows.wrong rows (after_checked choice rows (judged_line rows.world row)) faultless))
    (goes_on choice P rows row next rest fault (judged_line rows.world row) refl e stop on)

-- if the check finds a wrong row, it is found among these rows
finds_wrong : (choice : JudgeChoice) (rows : JudgedRows) (lines : List (List ℕ)) (fault : AuditFault) → rows.wrong ≡ false → checked_lines rows.world rows.world.count (lines ++ [] ∷ []) ≡ fails fault
    → (fold (after_row choice) rows lines).wrong ≡ true
finds_wrong choice rows [] fault faultless e = absurd (let never : ◌≡◌ {A = Result ℕ AuditFault} (Ok rows.world.count) (fails fault) = e in cc)
finds_wrong choice rows (row ∷ []) fault faultless e =
    row_goes_on choice (λ new. new.wrong ≡ true) rows row [] [] fault faultless e (λ new wrong. wrong) (λ new still rest. finds_wrong choice new [] fault still rest)
finds_wrong choice rows (row ∷ second ∷ others) fault faultless e =
    row_goes_on choice (λ new. (fold (after_row choice) new (second ∷ others)).wrong ≡ true) rows row second (others ++ [] ∷ []) fault faultless e
    (λ new wrong. ap (λ (r : JudgedRows). r.wrong) (stays choice new (second ∷ others) wrong) ∙ wrong)
    (λ new still rest. finds_wrong choice new (second ∷ others) fault still rest)

-- ---- lines

behind_header : (line : Description) (header : List ℕ) (rows : List (List ℕ)) (last : List ℕ) → is_accepted_header line header ≡ true
    → checked_from_header line (header ∷ (rows ++ last ∷ [])) ≡ checked_lines (start_of (line_of_header line header)) 0 (rows ++ last ∷ [])
behind_header line header [] last accepted = cond-true (is_accepted_header line header) _ (fails (BadLine 1)) accepted
behind_header line header (row ∷ rows) last accepted = cond-true (is_accepted_header line header) _ (fails (BadLine 1)) accepted

same_by : (choice : JudgeChoice) (line : Description) (header : List ℕ) (rows : List (List ℕ)) (next : List ℕ) (others : List (List ℕ)) (fault : AuditFault) (accepted : Bool) → is_accepted_header line header ≡ accepted
    → checked_from_header line (header ∷ (rows ++ [] ∷ [])) ≡ fails fault
    → judged_rows choice line (header ∷ (rows ++ next ∷ others)) ≡ judged_rows choice line (header ∷ (rows ++ [] ∷ []))
same_by choice line header rows next others fault false is e =
    ap (λ (b : Bool). rows_behind choice line header (cond b (whole_rows (rows ++ next ∷ others)) [])) is
    ∙ sym (ap (λ (b : Bool). rows_behind choice line header (cond b (whole_rows (rows ++ [] ∷ [])) [])) is)
same_by choice line header rows next others fault true is e =
    let found = finds_wrong choice (no_rows choice line (places_of_header line header)) rows fault refl (sym (behind_header line header rows [] is) ∙ e) in
    ap (λ (b : Bool). rows_behind choice line header (cond b (whole_rows (rows ++ next ∷ others)) [])) is
    ∙ ap (rows_behind choice line header) (whole_rows_more rows next others)
    ∙ fold-append (after_row choice) (no_rows choice line (places_of_header line header)) rows (whole_rows (next ∷ others))
    ∙ stays choice (rows_behind choice line header rows) (whole_rows (next ∷ others)) found
    ∙ sym (lines_judged choice line header rows [] is)

-- ---- a text

check_is : (line : Description) (text : List ℕ) → checked line text ≡ checked_from_header line (lines_of text)
unfolding checked
check_is line text = refl

same_rows : (choice : JudgeChoice) (line : Description) (front behind : List ℕ) (fault : AuditFault) → checked line (front ++ 10 ∷ []) ≡ fails fault
    → judged_rows choice line (lines_of ((front ++ 10 ∷ []) ++ behind)) ≡ judged_rows choice line (lines_of (front ++ 10 ∷ []))
same_rows choice line front behind fault e =
    let first = has_first front in
    let second = has_first behind in
    let alone : lines_of (front ++ 10 ∷ []) ≡ first.first ∷ (first.others ++ [] ∷ []) = lines_more front [] ∙ ap (λ (ls : List (List ℕ)). ls ++ [] ∷ []) first.is in
    let more : lines_of ((front ++ 10 ∷ []) ++ behind) ≡ first.first ∷ (first.others ++ second.first ∷ second.others) =
    ap lines_of (append_assoc front (10 ∷ []) behind)
    ∙ lines_more front behind
    ∙ ap (λ (ls : List (List ℕ)). ls ++ lines_of behind) first.is
    ∙ ap (λ (ls : List (List ℕ)). first.first ∷ (first.others ++ ls)) second.is in
    ap (judged_rows choice line) more
    ∙ same_by choice line first.first first.others second.first second.others fault (is_accepted_header line first.first) refl
    (sym (ap (checked_from_header line) alone) ∙ sym (check_is line (front ++ 10 ∷ [])) ∙ e)
    ∙ sym (ap (judged_rows choice line) alone)

same_judged : (choice : JudgeChoice) (a b : JudgedRows) (verdict found : Result ℕ AuditFault) → a ≡ b → verdict ≡ found
    → judged_by choice a.findings a.judges.seats verdict ≡ judged_by choice b.findings b.judges.seats found
same_judged choice a b verdict found same is =
    ap (λ (r : JudgedRows). judged_by choice r.findings r.judges.seats verdict) same
    ∙ ap (λ (v : Result ℕ AuditFault). judged_by choice b.findings b.judges.seats v) is

pub judged_to_its_first_wrong_row : IsJudgedToItsFirstWrongRow
judged_to_its_first_wrong_row choice line front behind fault e =
    same_judged choice (judged_rows choice line (lines_of ((front ++ 10 ∷ []) ++ behind))) (judged_rows choice line (lines_of (front ++ 10 ∷ [])))
    (checked line ((front ++ 10 ∷ []) ++ behind)) (checked line (front ++ 10 ∷ []))
    (same_rows choice line front behind fault e) (decides_at_wrong_row line front behind fault e).same_check
