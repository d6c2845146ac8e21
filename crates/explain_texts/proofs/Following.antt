-- The rows of a text that are followed, and the check of the text.
use Rattle.std.proofs.Common.{◌≡◌, ℕ, suc, ◌+◌, ◌==◌, Bool, true, false, cond, List, [], ◌∷◌, ◌++◌, length, take, drop, Option, Some, Result, Ok, refl, sym, ap, ◌∙◌, arith}
use Rattle.dp_line.specs.declared.event.Event.{Event}
use Rattle.dp_line.specs.World.{Description, World, start_of}
use Rattle.dp_line.specs.Steps.{step}
use Rattle.dp_text.specs.Words.{lines_of}
use Rattle.dp_audit.specs.declared.fault.AuditFault.{AuditFault}
use Rattle.dp_audit.specs.declared.fault.AuditFault.TheVariants.{BadLine, NotThePolicy}
use Rattle.dp_audit.specs.Check.{Judged, bad, not_the_policy, right, checked, checked_from_header, checked_lines, is_accepted_header, judged_line, line_of_header, places_of_header, places_of_lines}
use Rattle.explain_texts.specs.declared.choice.Choice.{Choice}
use Rattle.explain_texts.specs.declared.hold.Hold.{Hold}
use Rattle.explain_texts.specs.Holds.{holds_lasting}
use Rattle.explain_texts.specs.Known.{KnownView, first_known, first_world, known_after}
use Rattle.explain_texts.specs.Explained.{ended_by, ended_by_row, ended_by_rows, event_of_row, known_behind, last_known, last_world, right_entries, reported_event, reported_row, reported_rows, summary_of, world_behind}
use Rattle.explain_texts.specs.Followed.{Followed, FollowerView, HasTheVerdictOfItsRows, IsExplainedByItsRows, ending_facts, first_follower, followed, followed_lines, followed_text, followed_verdict, following, judged_fault, last_line, right_event, verdict_at, whole_rows}
use Rattle.explain_texts.specs.Reported.{Reported, reports_verdict}
use Rattle.explain_texts.proofs.Rows.{row_is_read}
use Rattle.explain_texts.proofs.RightRows.{checked_on, checked_stops, fails, right_is_step, step_counts}

-- ---- the rows that are followed

abbrev pub wrong : KnownView → AuditFault → FollowerView
wrong known fault = record { known = known; fault = Some fault }

-- nothing is reported, and this is the end
abbrev pub nothing_reported : FollowerView → Followed
nothing_reported follower = record { reported = []; ended = []; last = follower }

pub after_wrong : (choice : Choice) (known : KnownView) (fault : AuditFault) (rows : List (List ℕ)) → followed choice (wrong known fault) rows ≡ nothing_reported (wrong known fault)
after_wrong choice known fault [] = refl
after_wrong choice known fault (row ∷ rows) = ap (λ (f : Followed). record { reported = f.reported; ended = f.ended; last = f.last }) (after_wrong choice known fault rows)

-- rows of which the first is judged so
abbrev by_judged : Choice → KnownView → List (List ℕ) → Judged → Followed
by_judged choice known rows judged =
    let others = followed choice (record { known = known_behind known (right_event judged); fault = judged_fault known.context.world.count judged }) rows in
    record {
      reported = reported_row choice known (right_event judged) ++ others.reported;
      ended = ended_by_row known.context.world (right_event judged) ++ others.ended;
      last = others.last;
    }

-- ---- the right rows are those that the check accepts

-- what is reported of the lines that are right, and which of them these are
pub record Agrees (choice : Choice) (known : KnownView) (lines : List (List ℕ)) (verdict : Result ℕ AuditFault) (f : Followed) : Type 0 where
  pub many : ℕ
  pub counted : right_entries verdict ≡ known.context.world.count + many
  pub reported : reported_rows choice known (take many lines) ≡ f.reported
  pub ended : ended_by_rows known.context.world (take many lines) ≡ f.ended
  pub known_last : last_known known (take many lines) ≡ f.last.known
  pub world_last : last_world known.context.world (take many lines) ≡ f.last.known.context.world
  pub verdict_is : verdict ≡ verdict_at f.last (last_line lines)

last_counts : (empty : Bool) (n : ℕ) → right_entries (cond empty (Ok n) (fails (BadLine (n + 2)))) ≡ n + 0
last_counts true n = omega arith
last_counts false n = omega arith

-- the first row is wrong
stays : (choice : Choice) (known : KnownView) (lines : List (List ℕ)) (verdict : Result ℕ AuditFault) (f : Followed) (fault : AuditFault)
    → verdict ≡ fails fault → right_entries (fails fault) ≡ known.context.world.count + 0 → f ≡ nothing_reported (wrong known fault) → Agrees choice known lines verdict f
stays choice known lines verdict f fault is counts stopped = record {
  many = 0;
  counted = ap right_entries is ∙ counts;
  reported = sym (ap (λ (f : Followed). f.reported) stopped);
  ended = sym (ap (λ (f : Followed). f.ended) stopped);
  known_last = sym (ap (λ (f : Followed). f.last.known) stopped);
  world_last = sym (ap (λ (f : Followed). f.last.known.context.world) stopped);
  verdict_is = is ∙ sym (ap (λ (f : Followed). verdict_at f.last (last_line lines)) stopped);
}

-- the first row is right
goes_on : (choice : Choice) (known : KnownView) (row next : List ℕ) (lines : List (List ℕ)) (event : Event) → judged_line known.context.world row ≡ right event
    → Agrees choice (known_after known event) (next ∷ lines) (checked_lines (step known.context.world event).world (step known.context.world event).world.count (next ∷ lines)) (followed choice (following (known_after known event)) (whole_rows (next ∷ lines)))
    → Agrees choice known (row ∷ next ∷ lines) (checked_lines known.context.world known.context.world.count (row ∷ next ∷ lines)) (followed choice (following known) (whole_rows (row ∷ next ∷ lines)))
goes_on choice known row next lines event judged others =
    let world = known.context.world in
    let rows = take others.many (next ∷ lines) in
    let read : event_of_row row ≡ Some event = row_is_read world row event judged in
    let on = checked_on world row next lines event judged in
    let counts = step_counts world event (right_is_step world row event judged) in
    let is : followed choice (following known) (whole_rows (row ∷ next ∷ lines)) ≡ by_judged choice known (whole_rows (next ∷ lines)) (right event) =
    ap (by_judged choice known (whole_rows (next ∷ lines))) judged in
    record {
      many = suc others.many;
      counted = ap right_entries on ∙ others.counted ∙ ap (λ (n : ℕ). n + others.many) counts ∙ omega arith;
      reported =
          ap (λ (e : Option Event). reported_row choice known e ++ reported_rows choice (known_behind known e) rows) read
          ∙ ap (λ (facts : List Reported). reported_event choice known.context event ++ facts) others.reported
          ∙ sym (ap (λ (f : Followed). f.reported) is);
      ended =
          ap (λ (e : Option Event). ended_by_row world e ++ ended_by_rows (world_behind world e) rows) read
          ∙ ap (λ (holds : List Hold). ended_by world event ++ holds) others.ended
          ∙ sym (ap (λ (f : Followed). f.ended) is);
      known_last =
          ap (λ (e : Option Event). last_known (known_behind known e) rows) read
          ∙ others.known_last ∙ sym (ap (λ (f : Followed). f.last.known) is);
      world_last =
          ap (λ (e : Option Event). last_world (world_behind world e) rows) read
          ∙ others.world_last ∙ sym (ap (λ (f : Followed). f.last.known.context.world) is);
      verdict_is = on ∙ others.verdict_is ∙ sym (ap (λ (f : Followed). verdict_at f.last (last_line (next ∷ lines))) is);
    }

agrees : (choice : Choice) (known : KnownView) (lines : List (List ℕ))
    → Agrees choice known lines (checked_lines known.context.world known.context.world.count lines) (followed choice (following known) (whole_rows lines))
agrees choice known [] = record {
  many = 0;
  counted = omega arith;
  reported = refl;
  ended = refl;
  known_last = refl;
  world_last = refl;
  verdict_is = refl;
}
agrees choice known (last ∷ []) = record {
  many = 0;
  counted = last_counts (length last == 0) known.context.world.count;
  reported = refl;
  ended = refl;
  known_last = refl;
  world_last = refl;
  verdict_is = refl;
}
agrees choice known (row ∷ next ∷ lines) = by (judged_line known.context.world row) refl (λ event. agrees choice (known_after known event) (next ∷ lines))
  where
    stopped : (judged : Judged) (fault : AuditFault) → judged_line known.context.world row ≡ judged → judged_fault known.context.world.count judged ≡ Some fault
        → right_entries (fails fault) ≡ known.context.world.count + 0
        → by_judged choice known (whole_rows (next ∷ lines)) judged ≡ nothing_reported (wrong known fault)
        → Agrees choice known (row ∷ next ∷ lines) (checked_lines known.context.world known.context.world.count (row ∷ next ∷ lines)) (followed choice (following known) (whole_rows (row ∷ next ∷ lines)))
    stopped judged fault is e counts nothing =
        stays choice known (row ∷ next ∷ lines) _ _ fault
        (checked_stops known.context.world row next lines fault (ap (judged_fault known.context.world.count) is ∙ e)) counts
        (ap (by_judged choice known (whole_rows (next ∷ lines))) is ∙ nothing)

    by : (judged : Judged) → judged_line known.context.world row ≡ judged
        → ((event : Event) → Agrees choice (known_after known event) (next ∷ lines) (checked_lines (step known.context.world event).world (step known.context.world event).world.count (next ∷ lines)) (followed choice (following (known_after known event)) (whole_rows (next ∷ lines))))
        → Agrees choice known (row ∷ next ∷ lines) (checked_lines known.context.world known.context.world.count (row ∷ next ∷ lines)) (followed choice (following known) (whole_rows (row ∷ next ∷ lines)))
    by bad is others =
        stopped bad (BadLine (known.context.world.count + 2)) is refl (omega arith)
        (ap (λ (f : Followed). record { reported = f.reported; ended = f.ended; last = f.last }) (after_wrong choice known (BadLine (known.context.world.count + 2)) (whole_rows (next ∷ lines))))
    by not_the_policy is others =
        stopped not_the_policy (NotThePolicy (known.context.world.count + 2)) is refl (omega arith)
        (ap (λ (f : Followed). record { reported = f.reported; ended = f.ended; last = f.last }) (after_wrong choice known (NotThePolicy (known.context.world.count + 2)) (whole_rows (next ∷ lines))))
    by (right event) is others = goes_on choice known row next lines event is (others event)

-- ---- a text

-- what is reported of a text is what is reported of the rows that are followed
pub record IsFollowed (choice : Choice) (line : Description) (lines : List (List ℕ)) (verdict : Result ℕ AuditFault) (f : Followed) : Type 0 where
  pub reported : reported_rows choice (first_known line (places_of_lines line lines)) (take (right_entries verdict) (drop 1 lines)) ≡ f.reported
  pub ended : ended_by_rows (first_world line (places_of_lines line lines)) (take (right_entries verdict) (drop 1 lines)) ≡ f.ended
  pub known_last : last_known (first_known line (places_of_lines line lines)) (take (right_entries verdict) (drop 1 lines)) ≡ f.last.known
  pub world_last : last_world (first_world line (places_of_lines line lines)) (take (right_entries verdict) (drop 1 lines)) ≡ f.last.known.context.world

-- no row is followed
none_followed : (choice : Choice) (line : Description) (lines : List (List ℕ)) → IsFollowed choice line lines (fails (BadLine 1)) (nothing_reported (first_follower line lines))
none_followed choice line lines = record {
  reported = refl;
  ended = refl;
  known_last = refl;
  world_last = refl;
}

only_header : (choice : Choice) (line : Description) (header : List ℕ) (accepted : Bool)
    → IsFollowed choice line (header ∷ []) (fails (BadLine 1)) (followed choice (first_follower line (header ∷ [])) (cond accepted [] []))
only_header choice line header true = none_followed choice line (header ∷ [])
only_header choice line header false = none_followed choice line (header ∷ [])

with_header : (choice : Choice) (line : Description) (header : List ℕ) (rows : List (List ℕ)) (accepted : Bool)
    → IsFollowed choice line (header ∷ rows) (cond accepted (checked_lines (start_of (line_of_header line header)) 0 rows) (fails (BadLine 1)))
    (followed choice (first_follower line (header ∷ rows)) (cond accepted (whole_rows rows) []))
with_header choice line header rows true =
    let first = first_known line (places_of_header line header) in
    let same = agrees choice first rows in
    let many : right_entries (checked_lines (start_of (line_of_header line header)) 0 rows) ≡ same.many = same.counted ∙ omega arith in
    record {
      reported = ap (λ (n : ℕ). reported_rows choice first (take n rows)) many ∙ same.reported;
      ended = ap (λ (n : ℕ). ended_by_rows first.context.world (take n rows)) many ∙ same.ended;
      known_last = ap (λ (n : ℕ). last_known first (take n rows)) many ∙ same.known_last;
      world_last = ap (λ (n : ℕ). last_world first.context.world (take n rows)) many ∙ same.world_last;
    }
with_header choice line header rows false = none_followed choice line (header ∷ rows)

lines_followed : (choice : Choice) (line : Description) (lines : List (List ℕ)) → IsFollowed choice line lines (checked_from_header line lines) (followed_lines choice line lines)
lines_followed choice line [] = none_followed choice line []
lines_followed choice line (header ∷ []) = only_header choice line header (is_accepted_header line header)
lines_followed choice line (header ∷ next ∷ rows) = with_header choice line header (next ∷ rows) (is_accepted_header line header)

text_followed : (choice : Choice) (line : Description) (text : List ℕ) → IsFollowed choice line (lines_of text) (checked line text) (followed_text choice line text)
unfolding checked
text_followed choice line text = lines_followed choice line (lines_of text)

-- the explanation, from equal parts
same_explanation : (line : Description) (a b : List Reported) (c d : List Hold) (verdict : Result ℕ AuditFault) (x y : KnownView) (world : World) → a ≡ b → c ≡ d → x ≡ y → world ≡ y.context.world
    → a ++ summary_of (c ++ holds_lasting world line.slaves) x ∷ reports_verdict verdict ∷ [] ≡ b ++ ending_facts line d y verdict
same_explanation line a b c d verdict x y world reported ended known left = rw (reported, ended, known, left) refl

pub reported_by_rows : IsExplainedByItsRows
reported_by_rows choice line text =
    let f = text_followed choice line text in
    same_explanation line _ _ _ _ (checked line text) _ _ _ f.reported f.ended f.known_last f.world_last

lines_verdict : (choice : Choice) (line : Description) (lines : List (List ℕ)) → checked_from_header line lines ≡ followed_verdict choice line lines
lines_verdict choice line [] = refl
lines_verdict choice line (header ∷ []) = refl
lines_verdict choice line (header ∷ next ∷ rows) =
    ap (λ (verdict : Result ℕ AuditFault). cond (is_accepted_header line header) verdict (fails (BadLine 1)))
    (agrees choice (first_known line (places_of_header line header)) (next ∷ rows)).verdict_is

pub verdict_of_rows : HasTheVerdictOfItsRows
unfolding checked
verdict_of_rows choice line text = lines_verdict choice line (lines_of text)
