-- What was read of a text, row by row.
use Rattle.std.proofs.Common.{◌≡◌, ℕ, Bool, true, false, cond, List, [], ◌∷◌, ◌++◌, Option, Some, None, IfSome, refl, sym, ap, subst, ◌∙◌, append_assoc}
use Rattle.std.specs.Io.KnownBytes.{Consumes, Keeps, prepend_known}
use Rattle.std.proofs.lemmas.Bool.{cond-false}
use Rattle.std.proofs.lemmas.List.{append-nil}
use Rattle.dp_line.specs.World.{Description}
use Rattle.dp_text.specs.Words.{lines_of}
use Rattle.dp_audit.specs.FirstWrong.{HasNoLf}
use Rattle.dp_audit.specs.declared.fault.AuditFault.{AuditFault}
use Rattle.dp_audit.specs.declared.fault.AuditFault.TheVariants.{BadLine}
use Rattle.dp_audit.specs.Check.{checked, is_accepted_header, places_of_header, places_of_lines}
use Rattle.explain_texts.specs.declared.choice.Choice.{Choice}
use Rattle.explain_texts.specs.Explained.{explained}
use Rattle.explain_texts.specs.ExplainedRows.{Decides}
use Rattle.explain_texts.specs.Followed.{entry_rows, first_follower, followed, followed_lines, followed_text, followed_verdict, whole_rows}
use Rattle.explain_texts.specs.TextRows.{Begins, EndsAt, ReadsOn, TextRead, known_text, lf_if, octets_read, row_begun}
use Rattle.explain_texts.proofs.Following.{nothing_reported, verdict_of_rows}
use Rattle.explain_texts.proofs.ReadLines.{AreRows, line_alone, lines_more}
use Rattle.explain_texts.proofs.RightRows.{fails}
use Rattle.explain_texts.proofs.WrongRow.{any_choice, decides_at_wrong_row}

-- ---- one call

begun_is : (text : TextRead) (whole : Bool) → text.whole ≡ whole → octets_read (row_begun text) ≡ octets_read text
begun_is text true is =
    ap (λ (b : Bool). octets_read (cond b (record { past = octets_read text; row = []; whole = false }) text)) is ∙ append-nil (octets_read text)
begun_is text false is = ap (λ (b : Bool). octets_read (cond b (record { past = octets_read text; row = []; whole = false }) text)) is

past_is : (before : TextRead) → before.whole ≡ true → (row_begun before).past ≡ octets_read before
past_is before whole = ap (λ (b : Bool). (cond b (record { past = octets_read before; row = []; whole = false }) before).past) whole

-- a row behind one that is whole
pub row_behind : (before after : TextRead) (left left_after : Option (List ℕ)) → before.whole ≡ true → ReadsOn left left_after (row_begun before) after
    → octets_read after ≡ octets_read before ++ (after.row ++ lf_if after.whole)
row_behind before after left left_after whole reads =
    ap (λ (past : List ℕ). past ++ (after.row ++ lf_if after.whole)) (reads.same_past ∙ past_is before whole)

pub whole_behind : (before after : TextRead) (left left_after : Option (List ℕ)) → before.whole ≡ true → ReadsOn left left_after (row_begun before) after → after.whole ≡ true
    → octets_read after ≡ octets_read before ++ (after.row ++ 10 ∷ [])
whole_behind before after left left_after whole reads is =
    row_behind before after left left_after whole reads ∙ ap (λ (w : Bool). octets_read before ++ (after.row ++ lf_if w)) is

pub part_behind : (before after : TextRead) (left left_after : Option (List ℕ)) → before.whole ≡ true → ReadsOn left left_after (row_begun before) after → after.whole ≡ false
    → octets_read after ≡ octets_read before ++ after.row
part_behind before after left left_after whole reads is =
    row_behind before after left left_after whole reads
    ∙ ap (λ (w : Bool). octets_read before ++ (after.row ++ lf_if w)) is
    ∙ ap (λ (r : List ℕ). octets_read before ++ r) (append-nil after.row)

-- ---- all calls so far

some_octets : List ℕ → Option (List ℕ)
some_octets octets = Some octets

keeps_by : (before after : List ℕ) (left left_after : Option (List ℕ)) (piece : List ℕ) → after ≡ before ++ piece → Consumes left left_after piece → Keeps (prepend_known before left) (prepend_known after left_after)
keeps_by before after None left_after piece grows consumes = tt
keeps_by before after (Some octets) None piece grows consumes = absurd consumes
keeps_by before after (Some octets) (Some others) piece grows consumes =
    ap (λ (t : List ℕ). t ++ others) grows ∙ append_assoc before piece others ∙ ap (λ (o : List ℕ). before ++ o) (sym consumes)

keeps_more : (a b c : Option (List ℕ)) → Keeps a b → Keeps b c → Keeps a c
keeps_more None b c first second = tt
keeps_more (Some xs) None c first second = absurd first
keeps_more (Some xs) (Some ys) None first second = absurd second
keeps_more (Some xs) (Some ys) (Some zs) first second = second ∙ first

keeps_same : (known : Option (List ℕ)) → Keeps known known
keeps_same None = tt
keeps_same (Some octets) = refl

-- one call keeps the whole text
pub keeps_on : (left left_after : Option (List ℕ)) (before after : TextRead) → ReadsOn left left_after before after → Keeps (known_text before left) (known_text after left_after)
keeps_on left left_after before after reads = keeps_by (octets_read before) (octets_read after) left left_after reads.piece reads.grows reads.none_lost

-- so does one call that begins the next row
pub keeps_next : (left left_after : Option (List ℕ)) (before after : TextRead) → ReadsOn left left_after (row_begun before) after → Keeps (known_text before left) (known_text after left_after)
keeps_next left left_after before after reads =
    subst (λ (t : List ℕ). Keeps (prepend_known t left) (known_text after left_after)) (begun_is before before.whole refl) (keeps_on left left_after (row_begun before) after reads)

-- what was read since a text had this state
pub record ReadSince (left : Option (List ℕ)) (first : TextRead) (left_after : Option (List ℕ)) (now : TextRead) : Type 0 where
  pub kept : Keeps (known_text first left) (known_text now left_after)
  pub begins : Begins (octets_read first) (octets_read now)

pub nothing_since : (left : Option (List ℕ)) (text : TextRead) → ReadSince left text left text
nothing_since left text = record { kept = keeps_same (known_text text left); begins = ([], sym (append-nil (octets_read text))) }

pub row_since : (left : Option (List ℕ)) (first : TextRead) (left_before : Option (List ℕ)) (before : TextRead) (left_after : Option (List ℕ)) (after : TextRead)
    → ReadSince left first left_before before → ReadsOn left_before left_after (row_begun before) after → ReadSince left first left_after after
row_since left first left_before before left_after after since reads =
    let begun = begun_is before before.whole refl in
    let grows : octets_read after ≡ octets_read before ++ reads.piece = reads.grows ∙ ap (λ (t : List ℕ). t ++ reads.piece) begun in
    record {
      kept = keeps_more (known_text first left) (known_text before left_before) (known_text after left_after) since.kept (keeps_next left_before left_after before after reads);
      begins = (since.begins.0 ++ reads.piece, grows ∙ ap (λ (t : List ℕ). t ++ reads.piece) since.begins.1 ∙ append_assoc (octets_read first) since.begins.0 reads.piece);
    }

-- ---- what was read decides

itself : (line : Description) (read text : List ℕ) → read ≡ text → Decides line read text
itself line read text is = record { same_check = ap (checked line) (sym is); same_explanation = λ choice. ap (λ (t : List ℕ). explained line t choice) (sym is) }

at_end_by : (line : Description) (known left left_after : Option (List ℕ)) (before read : List ℕ) → Keeps known (prepend_known before left) → Keeps known (prepend_known read left_after) → EndsAt left left_after
    → IfSome known (Decides line read)
at_end_by line None left left_after before read came kept ends = tt
at_end_by line (Some text) None left_after before read came kept ends = absurd came
at_end_by line (Some text) (Some octets) left_after before read came kept ends =
    let all : read ++ [] ≡ text = subst (λ (o : Option (List ℕ)). Keeps (Some text) (prepend_known read o)) ends kept in
    itself line read text (sym (append-nil read) ∙ all)

-- the text was read to its end
pub decides_at_end : (line : Description) (left left_before left_after : Option (List ℕ)) (first before after : TextRead) → ReadSince left first left_before before
    → ReadsOn left_before left_after (row_begun before) after → EndsAt left_before left_after → IfSome (known_text first left) (Decides line (octets_read after))
decides_at_end line left left_before left_after first before after since reads ends =
    at_end_by line (known_text first left) left_before left_after (octets_read before) (octets_read after) since.kept
    (row_since left first left_before before left_after after since reads).kept ends

at_wrong_by : (line : Description) (known left : Option (List ℕ)) (front : List ℕ) (fault : AuditFault) → Keeps known (prepend_known (front ++ 10 ∷ []) left) → checked line (front ++ 10 ∷ []) ≡ fails fault
    → IfSome known (Decides line (front ++ 10 ∷ []))
at_wrong_by line None left front fault kept e = tt
at_wrong_by line (Some text) None front fault kept e = absurd kept
at_wrong_by line (Some text) (Some behind) front fault kept e =
    subst (Decides line (front ++ 10 ∷ [])) kept (decides_at_wrong_row line front behind fault e)

-- the text was read to a wrong row
pub decides_at_wrong : (line : Description) (left left_after : Option (List ℕ)) (first now : TextRead) (front : List ℕ) (fault : AuditFault) → ReadSince left first left_after now → octets_read now ≡ front ++ 10 ∷ []
    → checked line (octets_read now) ≡ fails fault → IfSome (known_text first left) (Decides line (octets_read now))
decides_at_wrong line left left_after first now front fault since is e =
    subst (λ (t : List ℕ). IfSome (known_text first left) (Decides line t)) (sym is)
    (at_wrong_by line (known_text first left) left_after front fault
    (subst (λ (t : List ℕ). Keeps (known_text first left) (prepend_known t left_after)) is since.kept) (ap (checked line) (sym is) ∙ e))

-- a whole row that was read last is wrong
pub decides_at_wrong_row_read : (line : Description) (left left_before left_after : Option (List ℕ)) (first before after : TextRead) (fault : AuditFault) → ReadSince left first left_before before → before.whole ≡ true
    → ReadsOn left_before left_after (row_begun before) after → after.whole ≡ true → checked line (octets_read before ++ (after.row ++ 10 ∷ [])) ≡ fails fault → IfSome (known_text first left) (Decides line (octets_read after))
decides_at_wrong_row_read line left left_before left_after first before after fault since whole reads is e =
    let text = whole_behind before after left_before left_after whole reads is in
    decides_at_wrong line left left_after first after (octets_read before ++ after.row) fault (row_since left first left_before before left_after after since reads)
    (text ∙ sym (append_assoc (octets_read before) after.row (10 ∷ []))) (ap (checked line) text ∙ e)

-- ---- the first row

-- all that was read is the first row
pub first_is : (text : TextRead) (whole : Bool) → text.past ≡ [] → text.whole ≡ whole → octets_read text ≡ text.row ++ lf_if whole
first_is text whole first is = ap (λ (past : List ℕ). past ++ (text.row ++ lf_if text.whole)) first ∙ ap (λ (w : Bool). text.row ++ lf_if w) is

-- the row as a text, which has no other line
pub line_is : (header shown row : List ℕ) → header ≡ shown → shown ≡ row → HasNoLf row → lines_of header ≡ row ∷ []
line_is header shown row is same none = ap lines_of (is ∙ same) ∙ line_alone row none

pub places_are : (line : Description) (header shown row : List ℕ) → header ≡ shown → shown ≡ row → HasNoLf row → places_of_lines line (lines_of header) ≡ places_of_header line row
places_are line header shown row is same none = ap (places_of_lines line) (line_is header shown row is same none)

-- a test of the row
pub accepted_is : (line : Description) (row tested : List ℕ) (found is : Bool) → tested ≡ row → found ≡ is_accepted_header line tested → found ≡ is → is_accepted_header line row ≡ is
accepted_is line row tested found is same test result = ap (is_accepted_header line) (sym same) ∙ sym test ∙ result

-- it is a header
abbrev pub behind_header : (line : Description) (text : TextRead) → text.past ≡ [] → text.whole ≡ true → HasNoLf text.row → is_accepted_header line text.row ≡ true → AreRows line (octets_read text)
behind_header line text first whole none accepted = record {
  front = text.row;
  whole = first_is text true first whole;
  header = text.row;
  rows = [];
  lines = line_alone text.row none;
  accepted = accepted;
}

-- it is no header, or not whole
one_line : (text : TextRead) → text.past ≡ [] → text.whole ≡ false → HasNoLf text.row → lines_of (octets_read text) ≡ text.row ∷ []
one_line text first begun none = ap lines_of (first_is text false first begun ∙ append-nil text.row) ∙ line_alone text.row none

header_line : (text : TextRead) → text.past ≡ [] → text.whole ≡ true → HasNoLf text.row → lines_of (octets_read text) ≡ text.row ∷ [] ∷ []
header_line text first whole none =
    ap lines_of (first_is text true first whole) ∙ lines_more text.row [] ∙ ap (λ (ls : List (List ℕ)). ls ++ [] ∷ []) (line_alone text.row none)

-- no row is followed
pub record IsHeadless (line : Description) (text : TextRead) : Type 0 where
  pub judged : checked line (octets_read text) ≡ fails (BadLine 1)
  pub followed_so : (choice : Choice) → followed_text choice line (octets_read text) ≡ nothing_reported (first_follower line (text.row ∷ []))

headless_by : (line : Description) (text : TextRead) (others : List (List ℕ)) → lines_of (octets_read text) ≡ text.row ∷ others → ((choice : Choice) → followed_verdict choice line (text.row ∷ others) ≡ fails (BadLine 1))
    → entry_rows line (text.row ∷ others) ≡ [] → IsHeadless line text
headless_by line text others is judged none = record {
  judged = verdict_of_rows any_choice line (octets_read text) ∙ ap (followed_verdict any_choice line) is ∙ judged any_choice;
  followed_so = λ choice. ap (followed_lines choice line) is ∙ ap (followed choice (first_follower line (text.row ∷ []))) none;
}

same_either : (is : Bool) → cond {A = List (List ℕ)} is [] [] ≡ []
same_either true = refl
same_either false = refl

pub not_whole : (line : Description) (text : TextRead) → text.past ≡ [] → text.whole ≡ false → HasNoLf text.row → IsHeadless line text
not_whole line text first begun none = headless_by line text [] (one_line text first begun none) (λ choice. refl) (same_either (is_accepted_header line text.row))

pub no_header : (line : Description) (text : TextRead) → text.past ≡ [] → text.whole ≡ true → HasNoLf text.row → is_accepted_header line text.row ≡ false → IsHeadless line text
no_header line text first whole none other =
    headless_by line text ([] ∷ []) (header_line text first whole none)
    (λ choice. cond-false (is_accepted_header line text.row) _ (fails (BadLine 1)) other)
    (cond-false (is_accepted_header line text.row) (whole_rows ([] ∷ [])) [] other)

-- a text that begins with such a row is decided
pub decides_at_header : (line : Description) (left : Option (List ℕ)) (text : TextRead) → text.past ≡ [] → text.whole ≡ true → IsHeadless line text → IfSome (known_text text left) (Decides line (octets_read text))
decides_at_header line left text first whole headless =
    decides_at_wrong line left left text text text.row (BadLine 1) (nothing_since left text) (first_is text true first whole) headless.judged
