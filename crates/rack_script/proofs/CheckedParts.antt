-- The rows of a text in parts that were read so far.
use Rattle.std.proofs.Common.{◌≡◌, ℕ, List, [], ◌∷◌, ◌++◌, Option, Some, None, IfSome, Result, Ok, Err, refl, sym, ap, subst, ◌∙◌, append_assoc}
use Rattle.std.specs.Io.KnownBytes.{Keeps, prepend_known}
use Rattle.std.proofs.lemmas.List.{append-nil}
use Rattle.dp_line.specs.declared.event.Event.{Event}
use Rattle.dp_text.specs.Words.{lines_of}
use Rattle.dp_audit.specs.FirstWrong.{HasNoLf}
use Rattle.dp_audit.specs.declared.fault.AuditFault.{AuditFault}
use Rattle.audit_parts.specs.Parts.{PartsView, end_checked, row_taken, rows_checked}
use Rattle.audit_parts.proofs.Alone.{some_line}
use Rattle.audit_parts.proofs.Taking.{rows_more, rows_wrong}
use Rattle.explain_texts.specs.TextRows.{EndsAt, TextRead, known_text, nothing_read, octets_read}
use Rattle.explain_texts.proofs.ReadLines.{line_alone, lines_more}
use Rattle.explain_texts.proofs.ReadEntries.{text_at_end}
use Rattle.explain_texts.proofs.ReadRows.{ReadSince}

-- the check behind the rows so far of a text: the whole is checked from its beginning on as what is left is checked from here on
pub record IsBehindRows (first : PartsView) (text : List ℕ) (view : PartsView) : Type 0 where
  pub same : (rest : List ℕ) → rows_checked first (lines_of (text ++ rest)) ≡ rows_checked view (lines_of rest)

pub behind_nothing : (first : PartsView) → IsBehindRows first [] first
behind_nothing first = record { same = λ rest. refl }

-- a row, and what follows its LF
row_first : (row rest : List ℕ) → HasNoLf row → lines_of (row ++ 10 ∷ rest) ≡ row ∷ lines_of rest
row_first row rest none = lines_more row rest ∙ ap (λ (lines : List (List ℕ)). lines ++ lines_of rest) (line_alone row none)

row_split : (first : PartsView) (text row rest : List ℕ) (view : PartsView) → IsBehindRows first text view → HasNoLf row
    → rows_checked first (lines_of ((text ++ (row ++ 10 ∷ [])) ++ rest)) ≡ rows_checked view (row ∷ lines_of rest)
row_split first text row rest view behind none =
    ap (λ (t : List ℕ). rows_checked first (lines_of t)) (append_assoc text (row ++ 10 ∷ []) rest ∙ ap (λ (t : List ℕ). text ++ t) (append_assoc row (10 ∷ []) rest))
    ∙ behind.same (row ++ 10 ∷ rest)
    ∙ ap (rows_checked view) (row_first row rest none)

-- one more row
pub with_row : (first : PartsView) (text row : List ℕ) (view new : PartsView) (event : Option Event) → IsBehindRows first text view → HasNoLf row → row_taken view row ≡ Ok (new, event)
    → IsBehindRows first (text ++ (row ++ 10 ∷ [])) new
with_row first text row view new event behind none taken = record {
  same = λ rest.
      let has = some_line rest in
      row_split first text row rest view behind none
      ∙ ap (λ (lines : List (List ℕ)). rows_checked view (row ∷ lines)) has.is
      ∙ rows_more view new row has.first has.others event taken
      ∙ sym (ap (rows_checked new) has.is);
}

-- the verdict if this is the end
pub at_end : (first : PartsView) (text row read : List ℕ) (view : PartsView) → IsBehindRows first text view → HasNoLf row → read ≡ text ++ row → end_checked view row ≡ rows_checked first (lines_of read)
at_end first text row read view behind none all =
    sym (ap (λ (t : List ℕ). rows_checked first (lines_of t)) all ∙ behind.same row ∙ ap (rows_checked view) (line_alone row none))

abbrev pub refused : AuditFault → Result ℕ AuditFault
refused fault = Err fault

-- the verdict at a wrong row, whatever follows
pub at_wrong : (first : PartsView) (text row rest : List ℕ) (view : PartsView) (fault : AuditFault) → IsBehindRows first text view → HasNoLf row → row_taken view row ≡ Err fault
    → rows_checked first (lines_of ((text ++ (row ++ 10 ∷ [])) ++ rest)) ≡ refused fault
at_wrong first text row rest view fault behind none wrong =
    let has = some_line rest in
    row_split first text row rest view behind none
    ∙ ap (λ (lines : List (List ℕ)). rows_checked view (row ∷ lines)) has.is
    ∙ rows_wrong view row has.first has.others fault wrong

pub wrong_at : (first : PartsView) (text row read : List ℕ) (view : PartsView) (fault : AuditFault) → IsBehindRows first text view → HasNoLf row → row_taken view row ≡ Err fault → read ≡ text ++ (row ++ 10 ∷ [])
    → refused fault ≡ rows_checked first (lines_of read)
wrong_at first text row read view fault behind none wrong all =
    sym (ap (λ (t : List ℕ). rows_checked first (lines_of t)) (all ∙ sym (append-nil (text ++ (row ++ 10 ∷ [])))) ∙ at_wrong first text row [] view fault behind none wrong)

-- ---- what was read decides

-- the verdict on all that the reader has is that on what was read
abbrev pub IsDecided : PartsView → Option (List ℕ) → List ℕ → Type 0
IsDecided first known read = IfSome known (λ text. rows_checked first (lines_of text) ≡ rows_checked first (lines_of read))

same_decided : (first : PartsView) (known : Option (List ℕ)) (read : List ℕ) → IfSome known (λ text. text ≡ read) → IsDecided first known read
same_decided first None read same = tt
same_decided first (Some text) read same = ap (λ (t : List ℕ). rows_checked first (lines_of t)) same

known_first : (left : Option (List ℕ)) → known_text nothing_read left ≡ left
known_first None = refl
known_first (Some octets) = refl

pub decided_at_end : (first : PartsView) (left left_before left_after : Option (List ℕ)) (start before after : TextRead) → start ≡ nothing_read → ReadSince left start left_before before → ReadSince left start left_after after
    → EndsAt left_before left_after → IsDecided first left (octets_read after)
decided_at_end first left left_before left_after start before after is since all ends =
    same_decided first left (octets_read after)
    (subst (λ (known : Option (List ℕ)). IfSome known (λ text. text ≡ octets_read after)) (ap (λ (t : TextRead). known_text t left) is ∙ known_first left)
    (text_at_end left left_before left_after start before after since all ends))

wrong_by : (first : PartsView) (known left : Option (List ℕ)) (text row read : List ℕ) (view : PartsView) (fault : AuditFault) → Keeps known (prepend_known read left) → IsBehindRows first text view → HasNoLf row
    → row_taken view row ≡ Err fault → read ≡ text ++ (row ++ 10 ∷ []) → IsDecided first known read
wrong_by first None left text row read view fault kept behind none wrong all = tt
wrong_by first (Some whole) None text row read view fault kept behind none wrong all = absurd kept
wrong_by first (Some whole) (Some rest) text row read view fault kept behind none wrong all =
    ap (λ (t : List ℕ). rows_checked first (lines_of t)) (sym kept ∙ ap (λ (t : List ℕ). t ++ rest) all)
    ∙ at_wrong first text row rest view fault behind none wrong
    ∙ wrong_at first text row read view fault behind none wrong all

pub decided_at_wrong : (first : PartsView) (left left_after : Option (List ℕ)) (start after : TextRead) (text row : List ℕ) (view : PartsView) (fault : AuditFault) → start ≡ nothing_read → ReadSince left start left_after after
    → IsBehindRows first text view → HasNoLf row → row_taken view row ≡ Err fault → octets_read after ≡ text ++ (row ++ 10 ∷ []) → IsDecided first left (octets_read after)
decided_at_wrong first left left_after start after text row view fault is since behind none wrong all =
    wrong_by first left left_after text row (octets_read after) view fault
    (subst (λ (known : Option (List ℕ)). Keeps known (prepend_known (octets_read after) left_after)) (ap (λ (t : TextRead). known_text t left) is ∙ known_first left) since.kept)
    behind none wrong all
