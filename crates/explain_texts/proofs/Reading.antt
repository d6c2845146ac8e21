-- A piece of a text that is read into the current row.
use Rattle.std.proofs.Common.{◌≡◌, ◌≢◌, ℕ, suc, ◌+◌, ◌-◌, ◌==◌, Bool, true, false, cond, List, [], ◌∷◌, ◌++◌, length, take, All, Option, Some, None, IfSome, Result, Ok, Err, OnOk, get_or, refl, sym, ap, subst, ◌∙◌, append_assoc, arith}
use Rattle.std.specs.Io.{StopsAt, StartsWith, appended_bytes}
use Rattle.std.specs.Io.BufRead.{DropsThrough, drop_through, take_through}
use Rattle.std.specs.Io.KnownBytes.{Consumes}
use Rattle.std.proofs.lemmas.Bool.{eqb-true, false≢true}
use Rattle.std.proofs.lemmas.List.{append-nil, length-append, take-append-drop, take_all}
use Rattle.std.proofs.lemmas.List.Elements.{All-append, All-from_recursion, All-more, All-take, recursion_from_All}
use Rattle.dp_audit.specs.FirstWrong.{HasNoLf}
use Rattle.explain_texts.specs.TextRows.{EndsAt, ReadsOn, ReadsPiece, TextRead, lf_if, octets_read}

-- ---- the LF of a row

abbrev IsNoLf : ℕ → Type 0
IsNoLf octet = octet ≢ 10

pub before_last : (row : List ℕ) → StopsAt row 10 → HasNoLf (take (length row - 1) row)
before_last row stops = recursion_from_All IsNoLf (take (length row - 1) row) stops

-- if the last octet is another one
pub no_lf_at_end : (row : List ℕ) (last : ℕ) → (length row ≡ 0 → ⊥) → last ≡ get_or row (length row - 1) last → last ≢ 10 → StopsAt row 10 → HasNoLf row
no_lf_at_end row last some is other stops =
    let all : All IsNoLf (take (length row - 1 + 1) row) =
    All-more IsNoLf row (length row - 1) last (omega arith) stops (subst IsNoLf is other) in
    let whole : length row - 1 + 1 ≡ length row = omega arith in
    recursion_from_All IsNoLf row (subst (All IsNoLf) (ap (λ (n : ℕ). take n row) whole ∙ take_all (length row) row (omega arith)) all)

-- ---- a row that was read on

take_behind : (front piece : List ℕ) (count : ℕ) → take (length front + count) (front ++ piece) ≡ front ++ take count piece
take_behind [] piece count = let none : 0 + count ≡ count = omega arith in ap (λ (n : ℕ). take n piece) none
take_behind (octet ∷ front) piece count =
    let more : length (octet ∷ front) + count ≡ suc (length front + count) = omega arith in
    ap (λ (n : ℕ). take n (octet ∷ (front ++ piece))) more ∙ ap (λ (octets : List ℕ). octet ∷ octets) (take_behind front piece count)

-- the octets before the last one
abbrev before : List ℕ → List ℕ
before row = take (length row - 1) row

stops_by : (front piece : List ℕ) → HasNoLf front → StopsAt piece 10 → StopsAt (front ++ piece) 10
stops_by front [] none stopped =
    All-take IsNoLf (length (front ++ []) - 1) (front ++ []) (subst (All IsNoLf) (sym (append-nil front)) (All-from_recursion IsNoLf front none))
stops_by front (octet ∷ piece) none stopped =
    let count : length (front ++ octet ∷ piece) - 1 ≡ length front + (length (octet ∷ piece) - 1) = omega (arith, length-append front (octet ∷ piece)) in
    let is : before (front ++ octet ∷ piece) ≡ front ++ before (octet ∷ piece) =
    ap (λ (n : ℕ). take n (front ++ octet ∷ piece)) count ∙ take_behind front (octet ∷ piece) (length (octet ∷ piece) - 1) in
    subst (All IsNoLf) (sym is) (All-append IsNoLf front (before (octet ∷ piece)) (All-from_recursion IsNoLf front none) stopped)

pub appended : (old new : List ℕ) → StartsWith new old → new ≡ old ++ appended_bytes old new
appended old new starts = sym (take-append-drop (length old) new) ∙ ap (λ (front : List ℕ). front ++ appended_bytes old new) starts

-- no octet but the last is an LF
pub stops : (old new : List ℕ) → HasNoLf old → StartsWith new old → StopsAt (appended_bytes old new) 10 → StopsAt new 10
stops old new none starts stopped =
    subst (λ (row : List ℕ). StopsAt row 10) (sym (appended old new starts)) (stops_by old (appended_bytes old new) none stopped)

-- ---- the text that was read

-- the row before and after a piece, with its LF if that was read
pub record RowReads (left left_after : Option (List ℕ)) (old new row : List ℕ) (whole : Bool) : Type 0 where
  pub starts : StartsWith new old
  pub none_lost : Consumes left left_after (appended_bytes old new)
  pub taken : new ≡ row ++ lf_if whole
  pub no_lf : HasNoLf row

pub reads_on : (past old new row : List ℕ) (was whole : Bool) (left left_after : Option (List ℕ)) (before : TextRead) → record { past = past; row = old; whole = was } ≡ before → before.whole ≡ false
    → RowReads left left_after old new row whole → ReadsOn left left_after before (record { past = past; row = row; whole = whole })
reads_on past old new row was whole left left_after before is begun reads =
    let text : octets_read before ≡ past ++ (old ++ []) =
    ap octets_read (sym is) ∙ ap (λ (w : Bool). past ++ (old ++ lf_if w)) (ap (λ (t : TextRead). t.whole) is ∙ begun) in
    record {
      piece = appended_bytes old new;
      grows =
          ap (λ (r : List ℕ). past ++ r) (sym reads.taken ∙ appended old new reads.starts)
          ∙ sym (append_assoc past old (appended_bytes old new))
          ∙ ap (λ (r : List ℕ). (past ++ r) ++ appended_bytes old new) (sym (append-nil old))
          ∙ sym (ap (λ (t : List ℕ). t ++ appended_bytes old new) text);
      same_past = ap (λ (t : TextRead). t.past) is;
      no_lf = reads.no_lf;
      none_lost = reads.none_lost;
    }

piece_by : (past old new row : List ℕ) (was whole : Bool) (left left_after : Option (List ℕ)) (before : TextRead) → record { past = past; row = old; whole = was } ≡ before → before.whole ≡ false
    → new ≡ row ++ lf_if whole → IfSome left (λ octets. new ≡ old ++ take_through 10 octets) → DropsThrough left left_after 10
    → ReadsPiece left left_after before (record { past = past; row = row; whole = whole })
piece_by past old new row was whole None left_after before is begun taken reads drops = tt
piece_by past old new row was whole (Some octets) left_after before is begun taken reads drops =
    let text : octets_read before ≡ past ++ (old ++ []) =
    ap octets_read (sym is) ∙ ap (λ (w : Bool). past ++ (old ++ lf_if w)) (ap (λ (t : TextRead). t.whole) is ∙ begun) in (
      ap (λ (r : List ℕ). past ++ r) (sym taken ∙ reads)
          ∙ sym (append_assoc past old (take_through 10 octets))
          ∙ ap (λ (r : List ℕ). (past ++ r) ++ take_through 10 octets) (sym (append-nil old))
          ∙ sym (ap (λ (t : List ℕ). t ++ take_through 10 octets) text),
      drops,
    )

-- ---- the end of what the reader has

behind_has_none : (front behind : List ℕ) → HasNoLf (front ++ behind) → HasNoLf behind
behind_has_none [] behind none = none
behind_has_none (octet ∷ front) behind none = behind_has_none front behind none.1

through_by : (octet : ℕ) (octets : List ℕ) (is : Bool) → (octet == 10) ≡ is → HasNoLf (cond is (octet ∷ []) (octet ∷ take_through 10 octets)) → (HasNoLf (take_through 10 octets) → drop_through 10 octets ≡ [])
    → cond is octets (drop_through 10 octets) ≡ []
through_by octet octets true is none others = absurd (none.0 (eqb-true octet 10 is))
through_by octet octets false is none others = others none.1

nothing_behind : (octets : List ℕ) → HasNoLf (take_through 10 octets) → drop_through 10 octets ≡ []
nothing_behind [] none = refl
nothing_behind (octet ∷ octets) none = through_by octet octets (octet == 10) refl none (nothing_behind octets)

ends_by : (old new row : List ℕ) (left left_after : Option (List ℕ)) → new ≡ row ++ [] → HasNoLf row → IfSome left (λ octets. new ≡ old ++ take_through 10 octets) → DropsThrough left left_after 10
    → EndsAt left left_after
ends_by old new row None left_after taken none reads drops = tt
ends_by old new row (Some octets) left_after taken none reads drops =
    let piece : HasNoLf (take_through 10 octets) =
    behind_has_none old (take_through 10 octets) (subst HasNoLf (sym (append-nil row) ∙ sym taken ∙ reads) none) in
    drops ∙ ap (λ (o : List ℕ). Some o) (nothing_behind octets piece)

-- what a read that succeeded ensures
pub reads_piece : {T E : Type 0} (result : Result T E) (past old new row : List ℕ) (was whole : Bool) (left left_after : Option (List ℕ)) (before : TextRead) → record { past = past; row = old; whole = was } ≡ before → before.whole ≡ false
    → new ≡ row ++ lf_if whole → OnOk result (IfSome left (λ octets. new ≡ old ++ take_through 10 octets)) → OnOk result (DropsThrough left left_after 10)
    → OnOk result (ReadsPiece left left_after before (record { past = past; row = row; whole = whole }))
reads_piece (Ok count) past old new row was whole left left_after before is begun taken reads drops = piece_by past old new row was whole left left_after before is begun taken reads drops
reads_piece (Err error) past old new row was whole left left_after before is begun taken reads drops = tt

pub reads_to_end : {T E : Type 0} (result : Result T E) (old new row : List ℕ) (whole : Bool) (left left_after : Option (List ℕ)) → new ≡ row ++ lf_if whole → HasNoLf row
    → OnOk result (IfSome left (λ octets. new ≡ old ++ take_through 10 octets)) → OnOk result (DropsThrough left left_after 10) → OnOk result (whole ≡ false → EndsAt left left_after)
reads_to_end (Ok count) old new row true left left_after taken none reads drops = λ never. absurd (false≢true (sym never))
reads_to_end (Ok count) old new row false left left_after taken none reads drops = λ begun. ends_by old new row left left_after taken none reads drops
reads_to_end (Err error) old new row whole left left_after taken none reads drops = tt
