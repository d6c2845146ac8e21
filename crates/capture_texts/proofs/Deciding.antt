-- What was read of a text decides its check and its capture.
use Rattle.std.proofs.Common.{◌≡◌, ℕ, Bool, true, false, cond, List, [], ◌∷◌, ◌++◌, Option, Some, None, IfSome, refl, sym, ap, subst, ◌∙◌, append_assoc}
use Rattle.std.specs.Io.KnownBytes.{Keeps, prepend_known}
use Rattle.std.proofs.lemmas.List.{append-nil}
use Rattle.dp_line.specs.World.{Description}
use Rattle.dp_text.specs.Words.{lines_of}
use Rattle.dp_audit.specs.FirstWrong.{HasNoLf}
use Rattle.dp_audit.specs.declared.fault.AuditFault.{AuditFault}
use Rattle.dp_audit.specs.declared.fault.AuditFault.TheVariants.{BadLine}
use Rattle.dp_audit.specs.Check.{checked, is_accepted_header, judged_line, places_of_header}
use Rattle.capture_texts.specs.Blocks.{Block}
use Rattle.explain_texts.specs.Followed.{FollowerView, whole_rows}
use Rattle.explain_texts.specs.Known.{first_known}
use Rattle.explain_texts.specs.TextRows.{EndsAt, TextRead, known_text, octets_read}
use Rattle.explain_texts.proofs.ReadLines.{line_alone, lines_more, with_row}
use Rattle.explain_texts.proofs.ReadRows.{IsHeadless, ReadSince, first_is}
use Rattle.explain_texts.proofs.RightRows.{fails}
use Rattle.explain_texts.proofs.WrongRow.{decides_at_wrong_row}
use Rattle.capture_texts.specs.Captured.{captured_lines, captured_rows, captured_text}
use Rattle.capture_texts.specs.Captures.{Decides}
use Rattle.capture_texts.proofs.Rows.{AreCaptured, is_wrong, more_captured, rows_more, with_row_captured, wrong_row}

-- ---- a text that is known

-- it was read to its end
pub known_at_end : (P : List ℕ → Type 0) (known left left_after : Option (List ℕ)) (before read : List ℕ) → Keeps known (prepend_known before left) → Keeps known (prepend_known read left_after) → EndsAt left left_after → P read
    → IfSome known P
known_at_end P None left left_after before read came kept ends holds = tt
known_at_end P (Some text) None left_after before read came kept ends holds = absurd came
known_at_end P (Some text) (Some octets) left_after before read came kept ends holds =
    let all : read ++ [] ≡ text = subst (λ (o : Option (List ℕ)). Keeps (Some text) (prepend_known read o)) ends kept in
    subst P (sym (append-nil read) ∙ all) holds

-- anything may follow
pub known_behind_read : (P : List ℕ → Type 0) (known left : Option (List ℕ)) (read : List ℕ) → Keeps known (prepend_known read left) → ((behind : List ℕ) → P (read ++ behind)) → IfSome known P
known_behind_read P None left read kept holds = tt
known_behind_read P (Some text) None read kept holds = absurd kept
known_behind_read P (Some text) (Some behind) read kept holds = subst P kept (holds behind)

-- ---- at the end of the text

pub decides_itself : (number : ℕ) (line : Description) (read : List ℕ) → Decides number line read read
decides_itself number line read = record { same_check = refl; same_capture = refl }

-- ---- at a wrong row

-- a whole row that is wrong decides the check
check_decided : (line : Description) (front row read behind : List ℕ) (fault : AuditFault) → read ≡ front ++ (row ++ 10 ∷ []) → checked line read ≡ fails fault → checked line (read ++ behind) ≡ checked line read
check_decided line front row read behind fault is wrong =
    let ends : read ≡ (front ++ row) ++ 10 ∷ [] = is ∙ sym (append_assoc front row (10 ∷ [])) in
    let decided = decides_at_wrong_row line (front ++ row) behind fault (ap (checked line) (sym ends) ∙ wrong) in
    ap (λ (t : List ℕ). checked line (t ++ behind)) ends ∙ decided.same_check ∙ ap (checked line) (sym ends)

-- and the capture
capture_decided : (number : ℕ) (line : Description) (text row behind : List ℕ) (follower : FollowerView) (old now : Option (List ℕ)) (are : AreCaptured number line text follower old now) (none : HasNoLf row)
    → is_wrong (judged_line follower.known.context.world row) → captured_text number line ((text ++ (row ++ 10 ∷ [])) ++ behind) ≡ captured_text number line (text ++ (row ++ 10 ∷ []))
capture_decided number line text row behind follower old now are none wrong =
    let rows = are.rows.are.rows in
    let first = first_known line (places_of_header line are.rows.are.header) in
    let more = more_captured number line (text ++ (row ++ 10 ∷ [])) behind (with_row line text row are.rows.are none) in
    let before = captured_rows number first rows in
    more.is
    ∙ ap (captured_rows number first) (append_assoc rows (row ∷ []) more.others)
    ∙ rows_more number first follower.known rows (row ∷ more.others) are.known
    ∙ ap (λ (packets : List Block). before ++ packets) (wrong_row number follower.known row more.others wrong)
    ∙ sym (ap (λ (packets : List Block). before ++ packets) (wrong_row number follower.known row [] wrong))
    ∙ sym (with_row_captured number line text row (text ++ (row ++ 10 ∷ [])) follower old now are none refl)

pub decides_at_wrong : (number : ℕ) (line : Description) (text row read behind : List ℕ) (follower : FollowerView) (old now : Option (List ℕ)) (fault : AuditFault) → AreCaptured number line text follower old now → HasNoLf row
    → read ≡ text ++ (row ++ 10 ∷ []) → is_wrong (judged_line follower.known.context.world row) → checked line read ≡ fails fault → Decides number line read (read ++ behind)
decides_at_wrong number line text row read behind follower old now fault are none is wrong judged = record {
  same_check = check_decided line text row read behind fault is judged;
  same_capture =
      ap (λ (t : List ℕ). captured_text number line (t ++ behind)) is
      ∙ capture_decided number line text row behind follower old now are none wrong
      ∙ ap (captured_text number line) (sym is);
}

-- ---- at a header that is not accepted

refused_lines : (number : ℕ) (line : Description) (row : List ℕ) (others : List (List ℕ)) → is_accepted_header line row ≡ false → captured_lines number line (row ∷ others) ≡ []
refused_lines number line row others other =
    ap (λ (b : Bool). captured_rows number (first_known line (places_of_header line row)) (cond b (whole_rows others) [])) other

pub lines_with : (row behind : List ℕ) → HasNoLf row → lines_of ((row ++ 10 ∷ []) ++ behind) ≡ row ∷ lines_of behind
lines_with row behind none =
    ap lines_of (append_assoc row (10 ∷ []) behind) ∙ lines_more row behind ∙ ap (λ (ls : List (List ℕ)). ls ++ lines_of behind) (line_alone row none)

refused_text : (number : ℕ) (line : Description) (row behind : List ℕ) → HasNoLf row → is_accepted_header line row ≡ false → captured_text number line ((row ++ 10 ∷ []) ++ behind) ≡ []
refused_text number line row behind none other =
    ap (captured_lines number line) (lines_with row behind none) ∙ refused_lines number line row (lines_of behind) other

-- nothing is captured of such a text
pub header_refused : (number : ℕ) (line : Description) (text : TextRead) → text.past ≡ [] → text.whole ≡ true → HasNoLf text.row → is_accepted_header line text.row ≡ false → captured_text number line (octets_read text) ≡ []
header_refused number line text first whole none other =
    ap (captured_text number line) (first_is text true first whole ∙ sym (append-nil (text.row ++ 10 ∷ []))) ∙ refused_text number line text.row [] none other

same_either : (is : Bool) → cond {A = List (List ℕ)} is [] [] ≡ []
same_either true = refl
same_either false = refl

-- nor of a header that is not whole
pub part_refused : (number : ℕ) (line : Description) (text : TextRead) → text.past ≡ [] → text.whole ≡ false → HasNoLf text.row → captured_text number line (octets_read text) ≡ []
part_refused number line text first part none =
    ap (captured_lines number line) (ap lines_of (first_is text false first part ∙ append-nil text.row) ∙ line_alone text.row none)
    ∙ ap (captured_rows number (first_known line (places_of_header line text.row))) (same_either (is_accepted_header line text.row))

pub decides_at_header : (number : ℕ) (line : Description) (text : TextRead) (behind : List ℕ) → text.past ≡ [] → text.whole ≡ true → HasNoLf text.row → is_accepted_header line text.row ≡ false → IsHeadless line text
    → Decides number line (octets_read text) (octets_read text ++ behind)
decides_at_header number line text behind first whole none other headless = record {
  same_check = check_decided line [] text.row (octets_read text) behind (BadLine 1) (first_is text true first whole) headless.judged;
  same_capture =
      ap (λ (t : List ℕ). captured_text number line (t ++ behind)) (first_is text true first whole)
      ∙ refused_text number line text.row behind none other
      ∙ sym (header_refused number line text first whole none other);
}

-- ---- since the first row

pub decided_at_end : (number : ℕ) (line : Description) (left left_before left_after : Option (List ℕ)) (first before after : TextRead) → ReadSince left first left_before before → ReadSince left first left_after after
    → EndsAt left_before left_after → IfSome (known_text first left) (Decides number line (octets_read after))
decided_at_end number line left left_before left_after first before after since now ends =
    known_at_end (Decides number line (octets_read after)) (known_text first left) left_before left_after (octets_read before) (octets_read after) since.kept now.kept ends
    (decides_itself number line (octets_read after))

pub decided_behind : (number : ℕ) (line : Description) (left left_after : Option (List ℕ)) (first after : TextRead) → ReadSince left first left_after after
    → ((behind : List ℕ) → Decides number line (octets_read after) (octets_read after ++ behind)) → IfSome (known_text first left) (Decides number line (octets_read after))
decided_behind number line left left_after first after now decides =
    known_behind_read (Decides number line (octets_read after)) (known_text first left) left_after (octets_read after) now.kept decides
