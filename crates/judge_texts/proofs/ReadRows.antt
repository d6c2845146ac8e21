-- What was read of a text decides its judgement.
use Rattle.std.proofs.Common.{◌≡◌, ℕ, true, List, [], ◌∷◌, ◌++◌, Option, Some, None, IfSome, refl, sym, ap, subst, ◌∙◌, append_assoc}
use Rattle.std.specs.Io.KnownBytes.{Keeps, prepend_known}
use Rattle.std.proofs.lemmas.List.{append-nil}
use Rattle.dp_line.specs.World.{Description}
use Rattle.dp_audit.specs.declared.fault.AuditFault.{AuditFault}
use Rattle.dp_audit.specs.declared.fault.AuditFault.TheVariants.{BadLine}
use Rattle.dp_audit.specs.Check.{checked}
use Rattle.explain_texts.specs.TextRows.{EndsAt, ReadsOn, TextRead, known_text, octets_read, row_begun}
use Rattle.explain_texts.proofs.ReadRows.{IsHeadless, ReadSince, first_is, nothing_since, row_since, whole_behind}
use Rattle.explain_texts.proofs.RightRows.{fails}
use Rattle.judge_texts.specs.declared.choice.JudgeChoice.{JudgeChoice}
use Rattle.judge_texts.specs.RowsJudged.{DecidesJudged}
use Rattle.judge_texts.proofs.WrongRow.{judged_to_its_first_wrong_row}

at_end_by : (P : List ℕ → Type 0) (known left left_after : Option (List ℕ)) (before read : List ℕ) → Keeps known (prepend_known before left) → Keeps known (prepend_known read left_after) → EndsAt left left_after → P read
    → IfSome known P
at_end_by P None left left_after before read came kept ends same = tt
at_end_by P (Some text) None left_after before read came kept ends same = absurd came
at_end_by P (Some text) (Some octets) left_after before read came kept ends same =
    let all : read ++ [] ≡ text = subst (λ (o : Option (List ℕ)). Keeps (Some text) (prepend_known read o)) ends kept in
    subst P (sym (append-nil read) ∙ all) same

-- the text was read to its end
pub decides_at_end : (choice : JudgeChoice) (line : Description) (left left_before left_after : Option (List ℕ)) (first before after : TextRead) → ReadSince left first left_before before
    → ReadsOn left_before left_after (row_begun before) after → EndsAt left_before left_after → IfSome (known_text first left) (DecidesJudged choice line (octets_read after))
decides_at_end choice line left left_before left_after first before after since reads ends =
    at_end_by (DecidesJudged choice line (octets_read after)) (known_text first left) left_before left_after (octets_read before) (octets_read after) since.kept
    (row_since left first left_before before left_after after since reads).kept ends refl

at_wrong_by : (choice : JudgeChoice) (line : Description) (known left : Option (List ℕ)) (front : List ℕ) (fault : AuditFault) → Keeps known (prepend_known (front ++ 10 ∷ []) left)
    → checked line (front ++ 10 ∷ []) ≡ fails fault → IfSome known (DecidesJudged choice line (front ++ 10 ∷ []))
at_wrong_by choice line None left front fault kept e = tt
at_wrong_by choice line (Some text) None front fault kept e = absurd kept
at_wrong_by choice line (Some text) (Some behind) front fault kept e =
    subst (DecidesJudged choice line (front ++ 10 ∷ [])) kept (judged_to_its_first_wrong_row choice line front behind fault e)

-- the text was read to a wrong row
decides_at_wrong : (choice : JudgeChoice) (line : Description) (left left_after : Option (List ℕ)) (first now : TextRead) (front : List ℕ) (fault : AuditFault) → ReadSince left first left_after now → octets_read now ≡ front ++ 10 ∷ []
    → checked line (octets_read now) ≡ fails fault → IfSome (known_text first left) (DecidesJudged choice line (octets_read now))
decides_at_wrong choice line left left_after first now front fault since is e =
    subst (λ (t : List ℕ). IfSome (known_text first left) (DecidesJudged choice line t)) (sym is)
    (at_wrong_by choice line (known_text first left) left_after front fault
    (subst (λ (t : List ℕ). Keeps (known_text first left) (prepend_known t left_after)) is since.kept) (ap (checked line) (sym is) ∙ e))

-- a whole row that was read last is wrong
pub decides_at_wrong_row : (choice : JudgeChoice) (line : Description) (left left_before left_after : Option (List ℕ)) (first before after : TextRead) (fault : AuditFault) → ReadSince left first left_before before
    → before.whole ≡ true → ReadsOn left_before left_after (row_begun before) after → after.whole ≡ true → checked line (octets_read before ++ (after.row ++ 10 ∷ [])) ≡ fails fault
    → IfSome (known_text first left) (DecidesJudged choice line (octets_read after))
decides_at_wrong_row choice line left left_before left_after first before after fault since whole reads is e =
    let text = whole_behind before after left_before left_after whole reads is in
    decides_at_wrong choice line left left_after first after (octets_read before ++ after.row) fault (row_since left first left_before before left_after after since reads)
    (text ∙ sym (append_assoc (octets_read before) after.row (10 ∷ []))) (ap (checked line) text ∙ e)

-- a text that begins with a row that is no header
pub decides_at_header : (choice : JudgeChoice) (line : Description) (left : Option (List ℕ)) (text : TextRead) → text.past ≡ [] → text.whole ≡ true → IsHeadless line text
    → IfSome (known_text text left) (DecidesJudged choice line (octets_read text))
decides_at_header choice line left text first whole headless =
    decides_at_wrong choice line left left text text text.row (BadLine 1) (nothing_since left text) (first_is text true first whole) headless.judged
