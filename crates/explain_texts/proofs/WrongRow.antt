-- A text of whole rows that is not legal decides the check and the explanation, whatever follows it.
use Rattle.std.proofs.Common.{◌≡◌, ℕ, Bool, true, false, cond, List, [], ◌∷◌, ◌++◌, Option, Some, None, Result, Ok, refl, sym, ap, ◌∙◌, append_assoc}
use Rattle.std.proofs.lemmas.Bool.{cond-false, cond-true}
use Rattle.std.proofs.lemmas.List.{append-nil}
use Rattle.dp_line.specs.World.{Description}
use Rattle.dp_text.specs.Words.{lines_of}
use Rattle.dp_audit.specs.declared.fault.AuditFault.{AuditFault}
use Rattle.dp_audit.specs.declared.fault.AuditFault.TheVariants.{BadLine}
use Rattle.dp_audit.specs.Check.{checked, is_accepted_header}
use Rattle.explain_texts.specs.declared.choice.Choice.{Choice}
use Rattle.explain_texts.specs.Explained.{explained}
use Rattle.explain_texts.specs.declared.hold.Hold.{Hold}
use Rattle.explain_texts.specs.ExplainedRows.{DecidesAtWrongRow}
use Rattle.explain_texts.specs.Followed.{Followed, FollowerView, ending_facts, first_follower, followed, followed_lines, followed_verdict, last_line, verdict_at, verdict_by, whole_rows}
use Rattle.explain_texts.specs.Reported.{Reported}
use Rattle.explain_texts.proofs.Following.{after_wrong, nothing_reported, reported_by_rows, verdict_of_rows, wrong}
use Rattle.explain_texts.proofs.ReadLines.{followed_more, has_first, joined, last_is, lines_judged, lines_more, rows_before_last, whole_rows_more}
use Rattle.explain_texts.proofs.RightRows.{fails}

-- ---- a wrong row

wrong_by : (fault : Option AuditFault) (count : ℕ) (found : AuditFault) → verdict_by fault count [] ≡ fails found → fault ≡ Some found
wrong_by (Some fault) count found e = cc
wrong_by None count found e = absurd (let never : ◌≡◌ {A = Result ℕ AuditFault} (Ok count) (fails found) = e in cc)

-- behind a wrong row nothing changes
stays : (choice : Choice) (follower : FollowerView) (rows others : List (List ℕ)) (fault : AuditFault) → (followed choice follower rows).last.fault ≡ Some fault
    → followed choice follower (rows ++ others) ≡ followed choice follower rows
stays choice follower rows others fault is =
    let before = followed choice follower rows in
    let last : before.last ≡ wrong before.last.known fault = ap (λ (f : Option AuditFault). record { known = before.last.known; fault = f }) is in
    let nothing : followed choice before.last others ≡ nothing_reported before.last =
    ap (λ (f : FollowerView). followed choice f others) last ∙ after_wrong choice before.last.known fault others ∙ sym (ap nothing_reported last) in
    followed_more choice follower rows others
    ∙ ap (joined before) nothing
    ∙ ap (λ (facts : List Reported). record { reported = facts; ended = before.ended ++ []; last = before.last }) (append-nil before.reported)
    ∙ ap (λ (holds : List Hold). record { reported = before.reported; ended = holds; last = before.last }) (append-nil before.ended)

-- what is the same behind a wrong row
record AreDecided (choice : Choice) (line : Description) (header : List ℕ) (rows : List (List ℕ)) (next : List ℕ) (others : List (List ℕ)) (fault : AuditFault) : Type 0 where
  verdict : followed_verdict choice line (header ∷ (rows ++ next ∷ others)) ≡ fails fault
  same : followed_lines choice line (header ∷ (rows ++ next ∷ others)) ≡ followed_lines choice line (header ∷ (rows ++ [] ∷ []))

decided_by : (choice : Choice) (line : Description) (header : List ℕ) (rows : List (List ℕ)) (next : List ℕ) (others : List (List ℕ)) (fault : AuditFault) (accepted : Bool) → is_accepted_header line header ≡ accepted
    → cond accepted (verdict_at (followed choice (first_follower line (header ∷ [])) (whole_rows (rows ++ [] ∷ []))).last (last_line (rows ++ [] ∷ []))) (fails (BadLine 1)) ≡ fails fault
    → AreDecided choice line header rows next others fault
decided_by choice line header rows next others fault false is e = record {
  verdict = lines_judged choice line header rows next others ∙ cond-false (is_accepted_header line header) _ (fails (BadLine 1)) is ∙ e;
  same =
      ap (λ (b : Bool). followed choice (first_follower line (header ∷ [])) (cond b (whole_rows (rows ++ next ∷ others)) [])) is
      ∙ sym (ap (λ (b : Bool). followed choice (first_follower line (header ∷ [])) (cond b (whole_rows (rows ++ [] ∷ [])) [])) is);
}
decided_by choice line header rows next others fault true is e =
    let first = first_follower line (header ∷ []) in
    let behind = whole_rows (next ∷ others) in
    let found : (followed choice first rows).last.fault ≡ Some fault =
    wrong_by (followed choice first rows).last.fault (followed choice first rows).last.known.context.world.count fault
    (sym (ap (λ (rs : List (List ℕ)). verdict_at (followed choice first rs).last (last_line (rows ++ [] ∷ []))) (rows_before_last rows [])
    ∙ ap (verdict_at (followed choice first rows).last) (last_is rows []))
    ∙ e) in
    let same : followed choice first (whole_rows (rows ++ next ∷ others)) ≡ followed choice first rows =
    ap (followed choice first) (whole_rows_more rows next others) ∙ stays choice first rows behind fault found in
    record {
      verdict =
          lines_judged choice line header rows next others
          ∙ cond-true (is_accepted_header line header) _ (fails (BadLine 1)) is
          ∙ ap (λ (f : Followed). verdict_at f.last (last_line (rows ++ next ∷ others))) same
          ∙ ap (λ (f : Option AuditFault). verdict_by f (followed choice first rows).last.known.context.world.count (last_line (rows ++ next ∷ others))) found;
      same =
          ap (λ (b : Bool). followed choice first (cond b (whole_rows (rows ++ next ∷ others)) [])) is
          ∙ same
          ∙ sym (ap (followed choice first) (rows_before_last rows []))
          ∙ sym (ap (λ (b : Bool). followed choice first (cond b (whole_rows (rows ++ [] ∷ [])) [])) is);
    }

-- ---- a text

-- the lines of a text of whole rows, and of the same text with more behind it
record HaveLines (front behind : List ℕ) : Type 0 where
  header : List ℕ
  rows : List (List ℕ)
  next : List ℕ
  others : List (List ℕ)
  alone : lines_of (front ++ 10 ∷ []) ≡ header ∷ (rows ++ [] ∷ [])
  more : lines_of ((front ++ 10 ∷ []) ++ behind) ≡ header ∷ (rows ++ next ∷ others)

have_lines : (front behind : List ℕ) → HaveLines front behind
have_lines front behind =
    let first = has_first front in
    let second = has_first behind in
    record {
      header = first.first;
      rows = first.others;
      next = second.first;
      others = second.others;
      alone = lines_more front [] ∙ ap (λ (ls : List (List ℕ)). ls ++ [] ∷ []) first.is;
      more =
          ap lines_of (append_assoc front (10 ∷ []) behind)
          ∙ lines_more front behind
          ∙ ap (λ (ls : List (List ℕ)). ls ++ lines_of behind) first.is
          ∙ ap (λ (ls : List (List ℕ)). first.first ∷ (first.others ++ ls)) second.is;
    }

decided : (choice : Choice) (line : Description) (front behind : List ℕ) (fault : AuditFault) (lines : HaveLines front behind) → checked line (front ++ 10 ∷ []) ≡ fails fault
    → AreDecided choice line lines.header lines.rows lines.next lines.others fault
decided choice line front behind fault lines e =
    decided_by choice line lines.header lines.rows lines.next lines.others fault (is_accepted_header line lines.header) refl
    (sym (lines_judged choice line lines.header lines.rows [] [])
    ∙ sym (ap (followed_verdict choice line) lines.alone)
    ∙ sym (verdict_of_rows choice line (front ++ 10 ∷ []))
    ∙ e)

-- any choice of entries
pub any_choice : Choice
any_choice = record { from = None; to = None; slave = None; master = None; faults = false; refused = false; summary = false }

checked_so : (line : Description) (front behind : List ℕ) (fault : AuditFault) (lines : HaveLines front behind) → checked line (front ++ 10 ∷ []) ≡ fails fault
    → checked line ((front ++ 10 ∷ []) ++ behind) ≡ fails fault
checked_so line front behind fault lines e =
    verdict_of_rows any_choice line ((front ++ 10 ∷ []) ++ behind)
    ∙ ap (followed_verdict any_choice line) lines.more
    ∙ (decided any_choice line front behind fault lines e).verdict

same_explanation : (line : Description) (a b : Followed) (verdict found : Result ℕ AuditFault) → a ≡ b → verdict ≡ found
    → a.reported ++ ending_facts line a.ended a.last.known verdict ≡ b.reported ++ ending_facts line b.ended b.last.known found
same_explanation line a b verdict found same is =
    ap (λ (f : Followed). f.reported ++ ending_facts line f.ended f.last.known verdict) same
    ∙ ap (λ (v : Result ℕ AuditFault). b.reported ++ ending_facts line b.ended b.last.known v) is

explained_so : (line : Description) (front behind : List ℕ) (fault : AuditFault) (lines : HaveLines front behind) → checked line (front ++ 10 ∷ []) ≡ fails fault
    → (choice : Choice) → explained line ((front ++ 10 ∷ []) ++ behind) choice ≡ explained line (front ++ 10 ∷ []) choice
explained_so line front behind fault lines e choice =
    reported_by_rows choice line ((front ++ 10 ∷ []) ++ behind)
    ∙ same_explanation line _ _ _ _
    (ap (followed_lines choice line) lines.more ∙ (decided choice line front behind fault lines e).same ∙ sym (ap (followed_lines choice line) lines.alone))
    (checked_so line front behind fault lines e ∙ sym e)
    ∙ sym (reported_by_rows choice line (front ++ 10 ∷ []))

pub decides_at_wrong_row : DecidesAtWrongRow
decides_at_wrong_row line front behind fault e =
    let lines = have_lines front behind in
    record { same_check = checked_so line front behind fault lines e ∙ sym e; same_explanation = explained_so line front behind fault lines e }
