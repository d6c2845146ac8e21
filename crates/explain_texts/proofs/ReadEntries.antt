-- What was read of a text behind its rows before, row by row.
use Rattle.std.proofs.Common.{◌≡◌, ℕ, ◌==◌, ◌||◌, Bool, true, false, cond, List, [], ◌∷◌, ◌++◌, length, Option, Some, None, IfSome, Result, Ok, Err, is_err, refl, sym, ap, subst, ◌∙◌, append_assoc, arith}
use Rattle.std.specs.Io.KnownBytes.{Keeps, prepend_known}
use Rattle.std.proofs.lemmas.Bool.{eqb-true}
use Rattle.std.proofs.lemmas.List.{append-nil}
use Rattle.dp_line.specs.World.{Description}
use Rattle.dp_audit.specs.declared.fault.AuditFault.{AuditFault}
use Rattle.dp_audit.specs.Check.{checked}
use Rattle.explain_texts.specs.Entries.{is_between_rows}
use Rattle.explain_texts.specs.Explained.{explained}
use Rattle.explain_texts.specs.ExplainedRows.{Decides}
use Rattle.explain_texts.specs.TextRows.{EndsAt, ReadsOn, TextRead, known_text, lf_if, octets_read, row_begun}
use Rattle.explain_texts.proofs.ReadRows.{ReadSince, decides_at_wrong}

-- ---- the next row

empty_is : (row : List ℕ) → (length row == 0) ≡ true → row ≡ []
empty_is [] is = refl
empty_is (octet ∷ octets) is = absurd (omega (arith, eqb-true (length (octet ∷ octets)) 0 is))

-- the next row begins behind all octets that were read
past_by : (text : TextRead) (whole : Bool) → text.whole ≡ whole → (whole || length text.row == 0) ≡ true → (row_begun text).past ≡ octets_read text
past_by text true is between = ap (λ (b : Bool). (cond b (record { past = octets_read text; row = []; whole = false }) text).past) is
past_by text false is between =
    ap (λ (b : Bool). (cond b (record { past = octets_read text; row = []; whole = false }) text).past) is
    ∙ sym (append-nil text.past)
    ∙ sym (ap (λ (row : List ℕ). text.past ++ (row ++ [])) (empty_is text.row between))
    ∙ sym (ap (λ (b : Bool). text.past ++ (text.row ++ lf_if b)) is)

pub next_row : (before after : TextRead) (left left_after : Option (List ℕ)) → is_between_rows before ≡ true → ReadsOn left left_after (row_begun before) after
    → octets_read after ≡ octets_read before ++ (after.row ++ lf_if after.whole)
next_row before after left left_after between reads =
    ap (λ (past : List ℕ). past ++ (after.row ++ lf_if after.whole)) (reads.same_past ∙ past_by before before.whole refl between)

pub whole_next : (before after : TextRead) (left left_after : Option (List ℕ)) → is_between_rows before ≡ true → ReadsOn left left_after (row_begun before) after → after.whole ≡ true
    → octets_read after ≡ octets_read before ++ (after.row ++ 10 ∷ [])
whole_next before after left left_after between reads is =
    next_row before after left left_after between reads ∙ ap (λ (w : Bool). octets_read before ++ (after.row ++ lf_if w)) is

pub part_next : (before after : TextRead) (left left_after : Option (List ℕ)) → is_between_rows before ≡ true → ReadsOn left left_after (row_begun before) after → after.whole ≡ false
    → octets_read after ≡ octets_read before ++ after.row
part_next before after left left_after between reads is =
    next_row before after left left_after between reads
    ∙ ap (λ (w : Bool). octets_read before ++ (after.row ++ lf_if w)) is
    ∙ ap (λ (r : List ℕ). octets_read before ++ r) (append-nil after.row)

between_by : (text : TextRead) (whole : Bool) → whole ≡ true → (whole || length text.row == 0) ≡ true
between_by text true is = refl
between_by text false is = absurd cc

-- behind a row that is whole
pub between_rows : (text : TextRead) → text.whole ≡ true → is_between_rows text ≡ true
between_rows text is = between_by text text.whole is

-- ---- what was read decides

end_by : (known left left_after : Option (List ℕ)) (before read : List ℕ) → Keeps known (prepend_known before left) → Keeps known (prepend_known read left_after) → EndsAt left left_after
    → IfSome known (λ text. text ≡ read)
end_by None left left_after before read came kept ends = tt
end_by (Some text) None left_after before read came kept ends = absurd came
end_by (Some text) (Some octets) left_after before read came kept ends =
    let all : read ++ [] ≡ text = subst (λ (o : Option (List ℕ)). Keeps (Some text) (prepend_known read o)) ends kept in
    sym all ∙ append-nil read

-- the text was read to its end
pub text_at_end : (left left_before left_after : Option (List ℕ)) (first before after : TextRead) → ReadSince left first left_before before → ReadSince left first left_after after → EndsAt left_before left_after
    → IfSome (known_text first left) (λ text. text ≡ octets_read after)
text_at_end left left_before left_after first before after since all ends =
    end_by (known_text first left) left_before left_after (octets_read before) (octets_read after) since.kept all.kept ends

itself_by : (line : Description) (read : List ℕ) (known : Option (List ℕ)) → IfSome known (λ text. text ≡ read) → IfSome known (Decides line read)
itself_by line read None same = tt
itself_by line read (Some text) same = record { same_check = ap (checked line) same; same_explanation = λ choice. ap (λ (t : List ℕ). explained line t choice) same }

-- the octets behind a row that is whole
front_is : (text : TextRead) → text.whole ≡ true → octets_read text ≡ (text.past ++ text.row) ++ 10 ∷ []
front_is text is = ap (λ (b : Bool). text.past ++ (text.row ++ lf_if b)) is ∙ sym (append_assoc text.past text.row (10 ∷ []))

-- a text that was read to its end or to a wrong row
decides_by : (line : Description) (left left_after : Option (List ℕ)) (first now : TextRead) (verdict : Result ℕ AuditFault) (whole : Bool) → now.whole ≡ whole → ReadSince left first left_after now
    → (whole ≡ false → IfSome (known_text first left) (λ text. text ≡ octets_read now)) → (whole ≡ true → is_err verdict ≡ true) → verdict ≡ checked line (octets_read now)
    → IfSome (known_text first left) (Decides line (octets_read now))
decides_by line left left_after first now verdict false is since ends wrong judged = itself_by line (octets_read now) (known_text first left) (ends refl)
decides_by line left left_after first now (Ok count) true is since ends wrong judged = absurd (let never : false ≡ true = wrong refl in cc)
decides_by line left left_after first now (Err fault) true is since ends wrong judged =
    decides_at_wrong line left left_after first now (now.past ++ now.row) fault since (front_is now is) (sym judged)

pub text_decides : (line : Description) (left left_after : Option (List ℕ)) (first now : TextRead) (verdict : Result ℕ AuditFault) (entries : List ℕ) → octets_read now ≡ octets_read first ++ entries
    → Keeps (known_text first left) (known_text now left_after) → (now.whole ≡ false → IfSome (known_text first left) (λ text. text ≡ octets_read now)) → (now.whole ≡ true → is_err verdict ≡ true)
    → verdict ≡ checked line (octets_read now) → IfSome (known_text first left) (Decides line (octets_read now))
text_decides line left left_after first now verdict entries read kept ends wrong judged =
    decides_by line left left_after first now verdict now.whole refl (record { kept = kept; begins = (entries, read) }) ends wrong judged
