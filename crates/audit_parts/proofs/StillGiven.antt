-- Steps of a reader of entries.
use Rattle.std.proofs.Common.{◌≡◌, ℕ, ◌<◌, inl, inr, true, List, [], ◌∷◌, ◌++◌, length, take, drop, min, Option, Some, None, refl, sym, ap, subst, ◌∙◌, append_assoc, arith}
use Rattle.std.specs.Prelude.{is_some}
use Rattle.std.specs.Io.KnownBytes.{Consumes, IsAtEnd, Keeps, prepend_known}
use Rattle.std.proofs.lemmas.List.{append-nil, take-append-drop}
use Rattle.std.proofs.lemmas.Grind.{common_steps}
use Rattle.dp_audit.specs.AuditText.{line_text}
use Rattle.dp_audit.specs.FirstWrong.{HasNoLf}
use Rattle.audit_parts.specs.Parts.{PartsView}
use Rattle.audit_parts.specs.EntryText.{end_given, entries_given, row_given}
use Rattle.audit_parts.specs.declared.entry_filter.EntryFilter.{EntryFilter}
use Rattle.audit_parts.specs.Filtering.{EndsKnown, EndsRow, given_with, still_given, waiting_of}
use Rattle.audit_parts.proofs.Filtering.{given_first, given_last, line_has_lf}

-- ---- a row is taken

-- a row of which this is given
pub row_taken : (before after : EntryFilter) (front given behind : List ℕ) → waiting_of before ≡ [] → before.row.items ≡ line_text front → HasNoLf front
    → row_given before.check front ≡ (given, after.check) → waiting_of after ≡ given → after.row.items ≡ []
    → given_with after behind ≡ given_with before behind
row_taken before after front given behind none text no_lf is gives empty =
    ap (λ (w : List ℕ). w ++ entries_given after.check (after.row.items ++ behind)) gives
    ∙ ap (λ (r : List ℕ). given ++ entries_given after.check (r ++ behind)) empty
    ∙ sym (ap (λ (t : List ℕ × Option PartsView). t.0 ++ entries_given t.1 behind) is)
    ∙ sym (given_first before.check front behind no_lf)
    ∙ sym (ap (λ (r : List ℕ). entries_given before.check (r ++ behind)) text)
    ∙ sym (ap (λ (w : List ℕ). w ++ entries_given before.check (before.row.items ++ behind)) none)

-- what follows the last LF
pub end_taken : (before after : EntryFilter) (behind : List ℕ) → waiting_of before ≡ [] → HasNoLf before.row.items → EndsRow before.row.items behind
    → waiting_of after ++ end_given after.check ≡ before.row.items ++ end_given before.check → after.row.items ≡ []
    → given_with after behind ≡ given_with before behind
end_taken before after behind none no_lf (inl (front, text)) is empty = absurd (line_has_lf front (subst HasNoLf text no_lf))
end_taken before after behind none no_lf (inr end) is empty =
    ap (λ (b : List ℕ). waiting_of after ++ entries_given after.check (after.row.items ++ b)) end
    ∙ ap (λ (r : List ℕ). waiting_of after ++ entries_given after.check (r ++ [])) empty
    ∙ is
    ∙ sym (given_last before.check before.row.items no_lf)
    ∙ sym (ap (λ (r : List ℕ). entries_given before.check r) (append-nil before.row.items))
    ∙ sym (ap (λ (b : List ℕ). entries_given before.check (before.row.items ++ b)) end)
    ∙ sym (ap (λ (w : List ℕ). w ++ entries_given before.check (before.row.items ++ behind)) none)

-- nothing is given behind the text
pub all_given : (before after : EntryFilter) (behind : List ℕ) → HasNoLf before.row.items → EndsRow before.row.items behind
    → after.row.items ≡ [] → (waiting_of after ≡ [] → end_given after.check ≡ []) → waiting_of after ≡ [] → given_with after behind ≡ []
all_given before after behind no_lf (inl (front, text)) empty ends none = absurd (line_has_lf front (subst HasNoLf text no_lf))
all_given before after behind no_lf (inr end) empty ends none =
    ap (λ (b : List ℕ). waiting_of after ++ entries_given after.check (after.row.items ++ b)) end
    ∙ ap (λ (r : List ℕ). waiting_of after ++ entries_given after.check (r ++ [])) empty
    ∙ ap (λ (w : List ℕ). w ++ end_given after.check) none
    ∙ ends none

-- ---- a reader goes on

-- a row is read on
read_by : (before after : EntryFilter) (x y : List ℕ) → after.check ≡ before.check → waiting_of after ≡ waiting_of before → after.row.items ++ y ≡ before.row.items ++ x
    → given_with after y ≡ given_with before x
read_by before after x y check waiting text =
    ap (λ (w : List ℕ). w ++ entries_given after.check (after.row.items ++ y)) waiting
    ∙ ap (λ (k : Option PartsView). waiting_of before ++ entries_given k (after.row.items ++ y)) check
    ∙ ap (λ (t : List ℕ). waiting_of before ++ entries_given before.check t) text

pub reads_on : (start : Option (List ℕ)) (first before after : EntryFilter) (a b c : Option (List ℕ)) → Keeps (still_given start first a) (still_given start before b)
    → Keeps (prepend_known before.row.items b) (prepend_known after.row.items c) → after.check ≡ before.check → waiting_of after ≡ waiting_of before
    → Keeps (still_given start first a) (still_given start after c)
reads_on None first before after a b c kept read check waiting = tt
reads_on (Some s) first before after None b c kept read check waiting = tt
reads_on (Some s) first before after (Some x) None c kept read check waiting = absurd kept
reads_on (Some s) first before after (Some x) (Some y) None kept read check waiting = absurd read
reads_on (Some s) first before after (Some x) (Some y) (Some z) kept read check waiting = read_by before after y z check waiting read ∙ kept

-- a reader that was known is
pub still_known : (a b : Option (List ℕ)) (old new : List ℕ) → Keeps (prepend_known old a) (prepend_known new b) → is_some a ≡ true → is_some b ≡ true
still_known None b old new read known = absurd cc
still_known (Some x) None old new read known = absurd read
still_known (Some x) (Some y) old new read known = refl

-- a row is taken behind a reader that ended it
pub takes_on : (start : Option (List ℕ)) (first before after : EntryFilter) (a b c : Option (List ℕ)) → (is_some start ≡ true → is_some b ≡ true) → Keeps (still_given start first a) (still_given start before c)
    → EndsKnown b c before.row.items → ((behind : List ℕ) → EndsRow before.row.items behind → given_with after behind ≡ given_with before behind)
    → Keeps (still_given start first a) (still_given start after c)
takes_on None first before after a b c known kept ends taken = tt
takes_on (Some s) first before after None b c known kept ends taken = tt
takes_on (Some s) first before after (Some x) None c known kept ends taken = absurd (let no = known refl in cc)
takes_on (Some s) first before after (Some x) (Some y) None known kept ends taken = absurd kept
takes_on (Some s) first before after (Some x) (Some y) (Some z) known kept ends taken = taken z ends ∙ kept

-- nothing is left
pub ends_on : (start : Option (List ℕ)) (before after : EntryFilter) (b c : Option (List ℕ)) → (is_some start ≡ true → is_some b ≡ true) → EndsKnown b c before.row.items
    → ((behind : List ℕ) → EndsRow before.row.items behind → given_with after behind ≡ []) → IsAtEnd (still_given start after c)
ends_on None before after b c known ends taken = tt
ends_on (Some s) before after b None known ends taken = tt
ends_on (Some s) before after None (Some z) known ends taken = absurd (let no = known refl in cc)
ends_on (Some s) before after (Some y) (Some z) known ends taken = taken z ends

-- ---- what waits is given

none_waits : (waiting room n : ℕ) → n ≡ min waiting room → n ≡ 0 → 0 < room → waiting ≡ 0
none_waits waiting room n is nothing some = grind (arith, common_steps, is, nothing, some)

empty_of : (xs : List ℕ) → length xs ≡ 0 → xs ≡ []
empty_of [] none = refl
empty_of (x ∷ xs) none = absurd (omega (arith, none))

given_by : (before after : EntryFilter) (buf rest : List ℕ) (n : ℕ) → after.check ≡ before.check → after.row ≡ before.row → waiting_of after ≡ drop n (waiting_of before) → take n buf ≡ take n (waiting_of before)
    → given_with before rest ≡ take n buf ++ given_with after rest
given_by before after buf rest n check row waiting same =
    let behind = entries_given before.check (before.row.items ++ rest) in
    ap (λ (w : List ℕ). w ++ behind) (sym (take-append-drop n (waiting_of before)))
    ∙ append_assoc (take n (waiting_of before)) (drop n (waiting_of before)) behind
    ∙ ap (λ (f : List ℕ). f ++ (drop n (waiting_of before) ++ behind)) (sym same)
    ∙ ap (λ (w : List ℕ). take n buf ++ (w ++ behind)) (sym waiting)
    ∙ ap (λ (k : Option PartsView). take n buf ++ (waiting_of after ++ entries_given k (before.row.items ++ rest))) (sym check)
    ∙ ap (λ (r : List ℕ). take n buf ++ (waiting_of after ++ entries_given after.check (r ++ rest))) (ap (λ v. v.items) (sym row))

at_end : (before after : EntryFilter) (buf rest : List ℕ) (n : ℕ) → (waiting_of before ≡ [] → given_with before rest ≡ []) → n ≡ min (length (waiting_of before)) (length buf)
    → after.check ≡ before.check → after.row ≡ before.row → waiting_of after ≡ drop n (waiting_of before) → take n buf ≡ take n (waiting_of before) → n ≡ 0 → 0 < length buf
    → given_with after rest ≡ []
at_end before after buf rest n end count check row waiting same nothing some =
    let all = end (empty_of (waiting_of before) (none_waits (length (waiting_of before)) (length buf) n count nothing some)) in
    let parts : given_with before rest ≡ take 0 buf ++ given_with after rest =
    given_by before after buf rest n check row waiting same ∙ ap (λ (k : ℕ). take k buf ++ given_with after rest) nothing in
    sym parts ∙ all

-- after a row was taken, if nothing waited
pub gives_on : (start : Option (List ℕ)) (first before after : EntryFilter) (buf : List ℕ) (a b : Option (List ℕ)) (n : ℕ) → Keeps (still_given start first a) (still_given start before b)
    → (waiting_of before ≡ [] → IsAtEnd (still_given start before b)) → n ≡ min (length (waiting_of before)) (length buf) → after.check ≡ before.check → after.row ≡ before.row
    → waiting_of after ≡ drop n (waiting_of before) → take n buf ≡ take n (waiting_of before)
    → Consumes (still_given start first a) (still_given start after b) (take n buf) × (n ≡ 0 → 0 < length buf → IsAtEnd (still_given start after b))
gives_on None first before after buf a b n kept end count check row waiting same = (tt, λ _ _. tt)
gives_on (Some s) first before after buf None None n kept end count check row waiting same = (tt, λ _ _. tt)
gives_on (Some s) first before after buf None (Some y) n kept end count check row waiting same =
    (tt, λ nothing some. at_end before after buf y n end count check row waiting same nothing some)
gives_on (Some s) first before after buf (Some x) None n kept end count check row waiting same = absurd kept
gives_on (Some s) first before after buf (Some x) (Some y) n kept end count check row waiting same =
    (sym kept ∙ given_by before after buf y n check row waiting same, λ nothing some. at_end before after buf y n end count check row waiting same nothing some)
