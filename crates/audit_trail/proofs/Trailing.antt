-- How one more look changes what a trail has written.
use Rattle.std.specs.Prelude.{if◌then◌else◌, nat_le, Bool, get_or, option_map, slice_get, drop, Contains}
use Rattle.std.specs.List.{AllByRecursion, flat_map, range_with_len}
use Rattle.std.specs.Io.KnownBytes.{Appends}
use Rattle.std.proofs.Common.{◌≡◌, ℕ, zero, suc, ◌+◌, ◌-◌, true, false, List, [], ◌∷◌, ◌++◌, length, map, take, sym, refl, ap, subst, ◌∙◌, Option, Some, None, arith, eq-eqb}
use Rattle.std.proofs.lemmas.List.{append-nil, append_assoc, map-append, length-append}
use Rattle.std.proofs.lemmas.Bool.{and_from, and_parts}
use Rattle.std.proofs.lemmas.Grind.{flat_map-append}
use Rattle.std.proofs.lemmas.Option.{same_Some, none-some}
use Rattle.dp_text.specs.Writes.{WritesPrefix}
use Rattle.dp_audit.specs.declared.entry.Entry.{Entry}
use Rattle.dp_audit.specs.AuditText.{entry_text, header_text, line_text}
use Rattle.dp_audit.specs.Records.{forgotten, kept_at}
use Rattle.dp_shared.specs.Content.{Content}
use Rattle.dp_shared.specs.LineLock.{FitsLook, FitsPass, IsPassAt, LineRule, Slotted, answer_in, first_entries, world_after}
use Rattle.dp_line.specs.declared.description.LineSpec.{LineSpec}
use mathlib.Core.Option.{some, some-injective, some-ne-none}
use lib.ListN.{get_elem?}
use Rattle.dp_shared.specs.declared.line_view.Look.{Look}
use Rattle.dp_shared.specs.declared.line_view.PassView.{PassView}
use Rattle.dp_shared.specs.declared.line_view.Question.{Question}
use Rattle.dp_shared.specs.declared.line_view.Question.TheVariants as asks
use Rattle.dp_shared.specs.declared.line_view.Answer.{Answer}
use Rattle.dp_shared.specs.declared.line_view.Answer.TheVariants as answers
use Rattle.dp_shared.specs.Passes.{PassIn, new_pass}
use Rattle.atomic_table.specs.Seated.{TableId}
use Rattle.audit_trail.specs.Named.{IsOneOf, TrailName}
use Rattle.audit_trail.specs.declared.row.Next.TheVariants as nexts
use Rattle.audit_trail.specs.declared.row.NextPart.TheVariants as parts
use Rattle.audit_heads.specs.Head.{Head, head_text}
use Rattle.audit_trail.specs.Trails.{AreFrom, FoundNone, HeadsFollow, IsBegun, IsWhole, Looks, LooksAside, OnlyLooks, PartOutcome, asks_behind, found, found_by, heads_follow, parts_text, written_by}

abbrev pub Seen : Type 0
Seen = ℕ × Entry

abbrev pub entry_of : Seen → Entry
entry_of seen = seen.1

-- ---- what was seen

pub found_more : (looks : List Look) (l : Look) → found (looks ++ l ∷ []) ≡ found looks ++ found_by l.question l.answer
unfolding found
found_more looks l = flat_map-append (λ (k : Look). found_by k.question k.answer) looks (l ∷ [])
    ∙ ap (λ (r : List Seen). flat_map (λ (k : Look). found_by k.question k.answer) looks ++ r) (append-nil (found_by l.question l.answer))

abbrev place_of : Seen → ℕ
place_of seen = seen.0

last_place : (first count place : ℕ) → first + count ≡ place → range_with_len first (suc count) ≡ range_with_len first count ++ place ∷ []
last_place first zero place is = let same : first ≡ place = omega arith in ap (λ (k : ℕ). k ∷ []) same
last_place first (suc count) place is = ap (λ (l : List ℕ). first ∷ l) (last_place (first + 1) count place (omega arith))

one_longer : (seen : List Seen) (place : ℕ) (entry : Entry) → suc (length seen) ≡ length (seen ++ (place, entry) ∷ [])
one_longer [] place entry = refl
one_longer (s ∷ seen) place entry = ap suc (one_longer seen place entry)

from_more : (n : ℕ) (seen : List Seen) (place : ℕ) (entry : Entry) → AreFrom n seen → place ≡ n + length seen → AreFrom n (seen ++ (place, entry) ∷ [])
from_more n seen place entry all is =
    map-append place_of seen ((place, entry) ∷ [])
    ∙ ap (λ (ps : List ℕ). ps ++ place ∷ []) all
    ∙ sym (last_place n (length seen) place (sym is))
    ∙ ap (λ (k : ℕ). range_with_len n k) (one_longer seen place entry)

-- ---- what is written

after_more : (now after : Option (List ℕ)) (out row : List ℕ) → now ≡ Some out → Appends now after row → after ≡ Some (out ++ row)
after_more None after out row e a = absurd (none-some out e)
after_more (Some xs) None out row e a = absurd a
after_more (Some xs) (Some ys) out row e a = ap Some (a ∙ ap (λ (z : List ℕ). z ++ row) (same_Some xs out e))

-- what is written of one more look
pub parts_more : (version number : ℕ) (looks : List Look) (l : Look) → parts_text version number (looks ++ l ∷ []) ≡ parts_text version number looks ++ written_by number l.question l.answer
unfolding parts_text
parts_more version number looks l =
    ap (λ (r : List ℕ). line_text (header_text version number) ++ r)
    (flat_map-append (λ (k : Look). written_by number k.question k.answer) looks (l ∷ [])
    ∙ ap (λ (r : List ℕ). flat_map (λ (k : Look). written_by number k.question k.answer) looks ++ r) (append-nil (written_by number l.question l.answer)))
    ∙ sym (append_assoc (line_text (header_text version number)) (flat_map (λ (k : Look). written_by number k.question k.answer) looks) (written_by number l.question l.answer))

abbrev rows_of : List Seen → List ℕ
rows_of seen = flat_map (λ (s : Seen). line_text (entry_text s.1)) seen

nothing_is_one : {X : Type 0} (s : Seen) → [] ≡ s ∷ [] → X
nothing_is_one s is = absurd (let e : 0 ≡ 1 = ap length is in omega arith)

-- of a look that found an entry its text line is written
pub row_written : (number : ℕ) (question : Question) (answer : Answer) (place : ℕ) (entry : Entry) → found_by question answer ≡ (place, entry) ∷ []
    → written_by number question answer ≡ line_text (entry_text entry)
row_written number (asks.Entry p) (answers.Entry (Some e)) place entry is =
    sym (append-nil (line_text (entry_text e))) ∙ ap rows_of is ∙ append-nil (line_text (entry_text entry))
row_written number (asks.Entry p) (answers.Entry None) place entry is = nothing_is_one (place, entry) is
row_written number (asks.Entry p) (answers.View view) place entry is = nothing_is_one (place, entry) is
row_written number (asks.Entry p) (answers.Owned list) place entry is = nothing_is_one (place, entry) is
row_written number (asks.Entry p) (answers.Head head) place entry is = nothing_is_one (place, entry) is
row_written number (asks.View address) answer place entry is = nothing_is_one (place, entry) is
row_written number (asks.Owned master) answer place entry is = nothing_is_one (place, entry) is
row_written number (asks.Head count) answer place entry is = nothing_is_one (place, entry) is

-- a look that found an entry asked for no head
no_head : (seen : ℕ) (question : Question) (answer : Answer) (s : Seen) → found_by question answer ≡ s ∷ [] → asks_behind seen question ≡ true
no_head seen (asks.Entry p) answer s is = refl
no_head seen (asks.View address) answer s is = refl
no_head seen (asks.Owned master) answer s is = refl
no_head seen (asks.Head count) answer s is = nothing_is_one s is

-- the text of looks and one more, which saw this entry
seen_more : (version number : ℕ) (looks : List Look) (l : Look) (place : ℕ) (entry : Entry) → found_by l.question l.answer ≡ (place, entry) ∷ []
    → parts_text version number (looks ++ l ∷ []) ≡ parts_text version number looks ++ line_text (entry_text entry)
seen_more version number looks l place entry is =
    parts_more version number looks l ∙ ap (λ (r : List ℕ). parts_text version number looks ++ r) (row_written number l.question l.answer place entry is)

-- .. of which nothing is written
quiet_more : (version number : ℕ) (looks : List Look) (l : Look) → written_by number l.question l.answer ≡ [] → parts_text version number (looks ++ l ∷ []) ≡ parts_text version number looks
quiet_more version number looks l quiet =
    parts_more version number looks l ∙ ap (λ (r : List ℕ). parts_text version number looks ++ r) quiet ∙ append-nil (parts_text version number looks)

-- one more look at the head behind the entries that were found, or at no head
heads_more : (n : ℕ) (looks : List Look) (l : Look) → heads_follow n looks ≡ true → asks_behind (n + length (found looks)) l.question ≡ true → heads_follow n (looks ++ l ∷ []) ≡ true
unfolding found
heads_more n [] l follow behind = and_from (asks_behind n l.question) true (subst (λ (k : ℕ). asks_behind k l.question ≡ true) (omega arith) behind) refl
heads_more n (look ∷ looks) l follow behind =
    let more = length-append (found_by look.question look.answer) (found looks) in
    let later : ℕ = n + length (found_by look.question look.answer) in
    and_from (asks_behind n look.question) (heads_follow later (looks ++ l ∷ [])) (and_parts (asks_behind n look.question) (heads_follow later looks) follow).0
    (heads_more later looks l (and_parts (asks_behind n look.question) (heads_follow later looks) follow).1 (subst (λ (k : ℕ). asks_behind k l.question ≡ true) (omega arith) behind))

same_seen : (looks : List Look) (l : Look) → found_by l.question l.answer ≡ [] → found (looks ++ l ∷ []) ≡ found looks
same_seen looks l is = found_more looks l ∙ ap (λ (s : List Seen). found looks ++ s) is ∙ append-nil (found looks)

take_all : (xs : List ℕ) → take (length xs) xs ≡ xs
take_all [] = refl
take_all (x ∷ xs) = ap (λ (z : List ℕ). x ∷ z) (take_all xs)

take_front : (xs ys : List ℕ) → take (length xs) (xs ++ ys) ≡ xs
take_front [] ys = refl
take_front (x ∷ xs) ys = ap (λ (z : List ℕ). x ∷ z) (take_front xs ys)

out_of : (front all out : List ℕ) (now : Option (List ℕ)) → now ≡ Some out → take (length front) out ≡ front → take (length out) all ≡ out
    → (option_map (λ (o : List ℕ). take (length front) o) now ≡ Some front) × (option_map (λ (o : List ℕ). take (length o) all) now ≡ now)
out_of front all out None e f t = absurd (none-some out e)
out_of front all out (Some xs) e f t = let s : xs ≡ out = same_Some xs out e in
    (ap Some (ap (λ (z : List ℕ). take (length front) z) s ∙ f), ap Some (ap (λ (z : List ℕ). take (length z) all) s ∙ t ∙ sym s))

pub begun_of_whole : (before now : Option (List ℕ)) (text : List ℕ) → IsWhole before now text → IsBegun before now text
begun_of_whole before now text whole front is = out_of front (front ++ text) (front ++ text) now (whole front is) (take_front front text) (take_all (front ++ text))

whole_and : (before now after : Option (List ℕ)) (text row : List ℕ) → IsWhole before now text → Appends now after row → IsWhole before after (text ++ row)
whole_and before now after text row whole appends front is =
    after_more now after (front ++ text) row (whole front is) appends ∙ ap Some (append_assoc front text row)

begun_and : (before now after : Option (List ℕ)) (text row : List ℕ) → IsWhole before now text → WritesPrefix now after row → IsBegun before after (text ++ row)
begun_and before now after text row whole (f, b, split, appends) front is =
    let e : after ≡ Some (front ++ text ++ f) = after_more now after (front ++ text) f (whole front is) appends in
    let all : front ++ (text ++ row) ≡ (front ++ text ++ f) ++ b =
    sym (append_assoc front text row) ∙ ap (λ (z : List ℕ). front ++ text ++ z) split ∙ sym (append_assoc (front ++ text) f b) in
    out_of front (front ++ (text ++ row)) (front ++ text ++ f) after e (ap (λ (z : List ℕ). take (length front) z) (append_assoc front text f) ∙ take_front front (text ++ f)) (ap (take (length (front ++ text ++ f))) all ∙ take_front (front ++ text ++ f) b)

-- the header
pub header_whole : (before after : Option (List ℕ)) (version number : ℕ) (text : List ℕ) → text ≡ line_text (header_text version number) → Appends before after text
    → IsWhole before after (parts_text version number [])
unfolding parts_text
header_whole before after version number text is appends front e =
    after_more before after front text e appends ∙ ap (λ (z : List ℕ). Some (front ++ z)) (is ∙ sym (append-nil (line_text (header_text version number))))

-- ---- a step

pub nothing_whole : (version number : ℕ) (before now after : Option (List ℕ)) (looks : List Look) (l : Look) → written_by number l.question l.answer ≡ [] → after ≡ now
    → IsWhole before now (parts_text version number looks) → IsWhole before after (parts_text version number (looks ++ l ∷ []))
nothing_whole version number before now after looks l quiet same whole =
    subst (λ (t : List ℕ). IsWhole before after t) (sym (quiet_more version number looks l quiet)) (λ front e. same ∙ whole front e)

pub row_whole : (version number : ℕ) (before now after : Option (List ℕ)) (looks : List Look) (l : Look) (place : ℕ) (entry : Entry)
    → found_by l.question l.answer ≡ (place, entry) ∷ [] → Appends now after (line_text (entry_text entry))
    → IsWhole before now (parts_text version number looks) → IsWhole before after (parts_text version number (looks ++ l ∷ []))
row_whole version number before now after looks l place entry is appends whole =
    subst (λ (t : List ℕ). IsWhole before after t) (sym (seen_more version number looks l place entry is)) (whole_and before now after (parts_text version number looks) (line_text (entry_text entry)) whole appends)

pub cut_begun : (version number : ℕ) (before now after : Option (List ℕ)) (looks : List Look) (l : Look) (place : ℕ) (entry : Entry)
    → found_by l.question l.answer ≡ (place, entry) ∷ [] → WritesPrefix now after (line_text (entry_text entry))
    → IsWhole before now (parts_text version number looks) → IsBegun before after (parts_text version number (looks ++ l ∷ []))
cut_begun version number before now after looks l place entry is written whole =
    subst (λ (t : List ℕ). IsBegun before after t) (sym (seen_more version number looks l place entry is)) (begun_and before now after (parts_text version number looks) (line_text (entry_text entry)) whole written)

pub nothing_from : (looks : List Look) (l : Look) (seen : ℕ) → found_by l.question l.answer ≡ [] → AreFrom 1 (found looks) → length (found looks) ≡ seen
    → AreFrom 1 (found (looks ++ l ∷ [])) × (length (found (looks ++ l ∷ [])) ≡ seen)
nothing_from looks l seen is all counted =
    subst (λ (s : List Seen). AreFrom 1 s × (length s ≡ seen)) (sym (same_seen looks l is)) (all, counted)

pub row_from : (looks : List Look) (l : Look) (place seen : ℕ) (entry : Entry) → found_by l.question l.answer ≡ (place, entry) ∷ [] → place ≡ seen + 1
    → AreFrom 1 (found looks) → length (found looks) ≡ seen → AreFrom 1 (found (looks ++ l ∷ [])) × (length (found (looks ++ l ∷ [])) ≡ place)
row_from looks l place seen entry is next all counted =
    subst (λ (s : List Seen). AreFrom 1 s × (length s ≡ place)) (sym (found_more looks l ∙ ap (λ (s : List Seen). found looks ++ s) is))
    (from_more 1 (found looks) place entry all (omega (arith, counted, next)), length-append (found looks) ((place, entry) ∷ []) ∙ omega (arith, counted, next))

-- ---- the tail before and after a step

abbrev Before : ℕ → ℕ → ℕ → Option (List ℕ) → Option (List ℕ) → PassView → Type 0
Before version number seen before now pass =
    AreFrom 1 (found pass.looks) × (length (found pass.looks) ≡ seen) × HeadsFollow pass.looks × IsWhole before now (parts_text version number pass.looks)

-- the same, if the last write may have been cut
abbrev Cut : ℕ → ℕ → ℕ → Option (List ℕ) → Option (List ℕ) → PassView → Type 0
Cut version number seen before now pass =
    AreFrom 1 (found pass.looks) × (length (found pass.looks) ≡ seen) × HeadsFollow pass.looks × IsBegun before now (parts_text version number pass.looks)

none_found : (place : ℕ) (look : Look) → FoundNone place look → found_by look.question look.answer ≡ []
none_found place look (asked, answered) = ap (λ (q : Question). found_by q look.answer) asked ∙ ap (found_by (asks.Entry place)) answered

none_written : (number place : ℕ) (look : Look) → FoundNone place look → written_by number look.question look.answer ≡ []
none_written number place look (asked, answered) = ap (λ (q : Question). written_by number q look.answer) asked ∙ ap (written_by number (asks.Entry place)) answered

not_behind : (seen place : ℕ) (question : Question) → question ≡ asks.Entry place → asks_behind seen question ≡ true
not_behind seen place question is = ap (asks_behind seen) is

pub opened_tail : (pass : PassView) (own address version number : ℕ) (before after : Option (List ℕ)) (text : List ℕ) → pass ≡ new_pass own address
    → text ≡ line_text (header_text version number) → Appends before after text → Before version number 0 before after pass
unfolding found
opened_tail pass own address version number before after text is header appends =
    subst (λ (p : PassView). Before version number 0 before after p) (sym is) (refl, refl, refl, header_whole before after version number text header appends)

-- one more look, of which nothing is written and that found nothing
after_quiet : (version number seen : ℕ) (before now after : Option (List ℕ)) (old new : PassView) (look : Look) → new ≡ record old { looks = old.looks ++ look ∷ [] }
    → found_by look.question look.answer ≡ [] → written_by number look.question look.answer ≡ [] → asks_behind seen look.question ≡ true → after ≡ now
    → Before version number seen before now old → Before version number seen before after new
after_quiet version number seen before now after old new look is unseen quiet behind same (from, counted, heads, whole) =
    let now_seen = nothing_from old.looks look seen unseen from counted in
    subst (λ (p : PassView). Before version number seen before after p) (sym is) (
      now_seen.0,
      now_seen.1,
      heads_more 0 old.looks look heads (subst (λ (k : ℕ). asks_behind k look.question ≡ true) (omega (arith, counted)) behind),
      nothing_whole version number before now after old.looks look quiet same whole,
    )

pub after_nothing : (version number seen place : ℕ) (before now after : Option (List ℕ)) (old new : PassView) → Looks nexts.Nothing place old new now after
    → Before version number seen before now old → Before version number seen before after new
after_nothing version number seen place before now after old new (look, is, later, (none, few, same)) before_it =
    after_quiet version number seen before now after old new look is (none_found place look none) (none_written number place look none) (not_behind seen place look.question none.0) same before_it

pub after_gone : (version number seen place : ℕ) (before now after : Option (List ℕ)) (old new : PassView) → Looks nexts.Gone place old new now after
    → Before version number seen before now old → Before version number seen before after new
after_gone version number seen place before now after old new (look, is, later, (none, more, same)) before_it =
    after_quiet version number seen before now after old new look is (none_found place look none) (none_written number place look none) (not_behind seen place look.question none.0) same before_it

pub after_row : (version number seen place : ℕ) (before now after : Option (List ℕ)) (old new : PassView) → Looks nexts.Row place old new now after
    → place ≡ seen + 1 → Before version number seen before now old → Before version number place before after new
after_row version number seen place before now after old new (look, is, later, (entry, one, appends)) next (from, counted, heads, whole) =
    let now_seen = row_from old.looks look place seen entry one next from counted in
    subst (λ (p : PassView). Before version number place before after p) (sym is) (
      now_seen.0,
      now_seen.1,
      heads_more 0 old.looks look heads (no_head (0 + length (found old.looks)) look.question look.answer (place, entry) one),
      row_whole version number before now after old.looks look place entry one appends whole,
    )

pub after_cut : (version number seen place : ℕ) (before now after : Option (List ℕ)) (old new : PassView) → Looks nexts.Cut place old new now after
    → place ≡ seen + 1 → Before version number seen before now old → Cut version number place before after new
after_cut version number seen place before now after old new (look, is, later, (entry, one, written)) next (from, counted, heads, whole) =
    let now_seen = row_from old.looks look place seen entry one next from counted in
    subst (λ (p : PassView). Cut version number place before after p) (sym is) (
      now_seen.0,
      now_seen.1,
      heads_more 0 old.looks look heads (no_head (0 + length (found old.looks)) look.question look.answer (place, entry) one),
      cut_begun version number before now after old.looks look place entry one written whole,
    )

-- and the text line of that entry is written
pub last_is_row : (place : ℕ) (now after : Option (List ℕ)) (old new : PassView) → Looks nexts.LastRow place old new now after → Looks nexts.Row place old new now after
last_is_row place now after old new (look, is, later, (last, row)) = (look, is, later, row)

-- a look that asked for no entry does not change what was seen
pub after_aside : (version number seen : ℕ) (before now : Option (List ℕ)) (old new : PassView) → LooksAside old new
    → Before version number seen before now old → Before version number seen before now new
after_aside version number seen before now old new (look, is, later, owned, few) before_it =
    after_quiet version number seen before now now old new look is (ap (λ (q : Question). found_by q look.answer) owned) (ap (λ (q : Question). written_by number q look.answer) owned)
    (ap (asks_behind seen) owned) refl before_it

-- ---- the next part

abbrev head_look : ℕ → ℕ → Option Head → PassView → Look
head_look seen count head old = record { question = asks.Head seen; count = count; answer = answers.Head head; saw_halt = old.saw_halt }

pub after_not_due : (version number seen : ℕ) (before now after : Option (List ℕ)) (old new : PassView) → PartOutcome parts.NotDue number seen old new now after
    → Before version number seen before now old → Before version number seen before after new
after_not_due version number seen before now after old new (is, same) before_it =
    subst (λ (p : PassView). Before version number seen before after p) (sym is)
    (subst (λ (o : Option (List ℕ)). Before version number seen before o old) (sym same) before_it)

pub after_not_yet : (version number seen : ℕ) (before now after : Option (List ℕ)) (old new : PassView) → PartOutcome parts.NotYet number seen old new now after
    → Before version number seen before now old → Before version number seen before after new
after_not_yet version number seen before now after old new (count, other, looks, same) before_it =
    after_quiet version number seen before now after old new (head_look seen count None old) looks.look refl refl (eq-eqb seen seen refl) same before_it

pub after_begun : (version number seen : ℕ) (before now after : Option (List ℕ)) (old new : PassView) → PartOutcome parts.Begun number seen old new now after
    → Before version number seen before now old → Before version number seen before after new
after_begun version number seen before now after old new (head, looks, appends) (from, counted, heads, whole) =
    let look = head_look seen seen (Some head) old in
    let now_seen = nothing_from old.looks look seen refl from counted in
    subst (λ (p : PassView). Before version number seen before after p) (sym looks.look) (
      now_seen.0,
      now_seen.1,
      heads_more 0 old.looks look heads (eq-eqb seen (0 + length (found old.looks)) (omega (arith, counted))),
      subst (λ (t : List ℕ). IsWhole before after t) (sym (parts_more version number old.looks look)) (whole_and before now after (parts_text version number old.looks) (head_text number head) whole appends),
    )

pub after_cut_head : (version number seen : ℕ) (before now after : Option (List ℕ)) (old new : PassView) → PartOutcome parts.Cut number seen old new now after
    → Before version number seen before now old → Cut version number seen before after new
after_cut_head version number seen before now after old new (head, looks, written) (from, counted, heads, whole) =
    let look = head_look seen seen (Some head) old in
    let now_seen = nothing_from old.looks look seen refl from counted in
    subst (λ (p : PassView). Cut version number seen before after p) (sym looks.look) (
      now_seen.0,
      now_seen.1,
      heads_more 0 old.looks look heads (eq-eqb seen (0 + length (found old.looks)) (omega (arith, counted))),
      subst (λ (t : List ℕ). IsBegun before after t) (sym (parts_more version number old.looks look)) (begun_and before now after (parts_text version number old.looks) (head_text number head) whole written),
    )

-- ---- what was seen, and the journal

abbrev Stands : List Entry → Seen → Type 0
Stands entries seen = slice_get entries (seen.0 - 1) ≡ Some seen.1

pub got_in_front : (entries : List Entry) (count index : ℕ) (entry : Entry) → slice_get (take count entries) index ≡ Some entry → slice_get entries index ≡ Some entry
got_in_front entries zero index entry is = absurd (none-some entry is)
got_in_front [] (suc count) index entry is = absurd (none-some entry is)
got_in_front (e ∷ entries) (suc count) zero entry is = is
got_in_front (e ∷ entries) (suc count) (suc index) entry is = got_in_front entries count index entry is

got_unless : (b : Bool) (entries : List Entry) (count index : ℕ) (entry : Entry) → (if b then None else slice_get (take count entries) index) ≡ Some entry
    → slice_get entries index ≡ Some entry
got_unless true entries count index entry is = absurd (none-some entry is)
got_unless false entries count index entry is = got_in_front entries count index entry is

at_front : (room : ℕ) (entries : List Entry) (count place : ℕ) (entry : Entry) → kept_at room (take count entries) place ≡ Some entry → slice_get entries (place - 1) ≡ Some entry
at_front room entries count place entry is = got_unless (nat_le place (forgotten room (length (take count entries)))) entries count (place - 1) entry is

stands_by : (room : ℕ) (entries : List Entry) (count place : ℕ) (o : Option Entry) → kept_at room (take count entries) place ≡ o → AllByRecursion (Stands entries) (found_by (asks.Entry place) (answers.Entry o))
stands_by room entries count place None is = tt
stands_by room entries count place (Some entry) is = (at_front room entries count place entry is, tt)

module _ (content : Content) where
  answered : (count : ℕ) (question : Question) → AllByRecursion (Stands content.book.entries) (found_by question (answer_in content.book.room (world_after content count) (first_entries content count) question))
  answered count (asks.View address) = tt
  answered count (asks.Owned master) = tt
  answered count (asks.Head behind) = tt
  answered count (asks.Entry place) = stands_by content.book.room content.book.entries count place (kept_at content.book.room (take count content.book.entries) place) refl

  look_stands : (l : Look) → FitsLook content l → AllByRecursion (Stands content.book.entries) (found_by l.question l.answer)
  look_stands l fits = subst (λ (a : Answer). AllByRecursion (Stands content.book.entries) (found_by l.question a)) (sym fits.value) (answered l.count l.question)

  all_and : (front back : List Seen) → AllByRecursion (Stands content.book.entries) front → AllByRecursion (Stands content.book.entries) back
      → AllByRecursion (Stands content.book.entries) (front ++ back)
  all_and [] back f b = b
  all_and (s ∷ front) back f b = (f.0, all_and front back f.1 b)

  all_stand : (looks : List Look) → AllByRecursion (FitsLook content) looks → AllByRecursion (Stands content.book.entries) (found looks)
  unfolding found
  all_stand [] fits = tt
  all_stand (l ∷ looks) fits = all_and (found_by l.question l.answer) (found looks) (look_stands l fits.0) (all_stand looks fits.1)

one_more : (entries : List Entry) (n : ℕ) (entry : Entry) → slice_get entries n ≡ Some entry → drop n entries ≡ entry ∷ drop (suc n) entries
one_more [] n entry is = absurd (none-some entry is)
one_more (e ∷ entries) zero entry is = ap (λ (x : Entry). x ∷ entries) (same_Some e entry is)
one_more (e ∷ entries) (suc n) entry is = one_more entries n entry is

in_order : (entries : List Entry) (n : ℕ) (seen : List Seen) → AreFrom (suc n) seen → AllByRecursion (Stands entries) seen → map entry_of seen ≡ take (length seen) (drop n entries)
in_order entries n [] from stand = refl
in_order entries n (s ∷ seen) from stand =
    let first : s.0 ≡ suc n = ap (λ (ps : List ℕ). get_or ps 0 0) from in
    let here : slice_get entries n ≡ Some s.1 = subst (λ (k : ℕ). slice_get entries k ≡ Some s.1) (omega arith) stand.0 in
    let behind : AreFrom (suc n + 1) seen = ap (drop 1) from in
    let later : AreFrom (suc (suc n)) seen = subst (λ (k : ℕ). AreFrom k seen) (omega arith) behind in
    ap (λ (es : List Entry). s.1 ∷ es) (in_order entries (suc n) seen later stand.1)
    ∙ sym (ap (take (suc (length seen))) (one_more entries n s.1 here))

pub first_entries_of : (content : Content) (pass : PassView) → FitsPass content pass → AreFrom 1 (found pass.looks)
    → map entry_of (found pass.looks) ≡ take (length (found pass.looks)) content.book.entries
first_entries_of content pass fits from = in_order content.book.entries zero (found pass.looks) from (all_stand content pass.looks fits.looks)

-- ---- between any two steps of the lock

one_of : {X : Type 0} (P : X → Type 0) (xs : List X) (index : ℕ) (x : X) → AllByRecursion P xs → get_elem? xs index ≡ some x → P x
one_of P [] index x all at = absurd (some-ne-none x (sym at))
one_of P (y ∷ xs) zero x all at = subst P (some-injective y x at) all.0
one_of P (y ∷ xs) (suc index) x all at = one_of P xs index x all.1 at

pub fits_now : (line : LineSpec) (state : Slotted) (rule : LineRule line state) (seat index : ℕ) (pass : PassView) → IsPassAt state seat index pass
    → FitsPass rule.content pass
fits_now line state rule seat index pass (view, seated, held) = one_of (FitsPass rule.content) view.passes index pass (rule.each_fits seat view seated) held

pub first_entries_now : (line : LineSpec) (state : Slotted) (rule : LineRule line state) (seat index : ℕ) (pass : PassView)
    → IsPassAt state seat index pass → AreFrom 1 (found pass.looks)
    → map entry_of (found pass.looks) ≡ take (length (found pass.looks)) rule.content.book.entries
first_entries_now line state rule seat index pass at from = first_entries_of rule.content pass (fits_now line state rule seat index pass at) from

-- ---- the name of a trail

pub name_kept : (trails : List TrailName) (old new : PassIn) → new.table ≡ old.table → new.line ≡ old.line → OnlyLooks old.view new.view
    → IsOneOf trails old → IsOneOf trails new
name_kept trails old new table line looks one =
    let number : new.view.number ≡ old.view.number = ap (λ (p : PassView). p.number) looks.1 in
    subst (λ (t : TableId). ∥ Contains trails (record { table = t; line = new.line; number = new.view.number }) ∥₁) (sym table)
    (subst (λ (l : ℕ). ∥ Contains trails (record { table = old.table; line = l; number = new.view.number }) ∥₁) (sym line)
    (subst (λ (n : ℕ). ∥ Contains trails (record { table = old.table; line = old.line; number = n }) ∥₁) (sym number) one))
