-- The heads of parts, and the text without them.
use Rattle.std.specs.Prelude.{◌==◌, not}
use Rattle.std.specs.List.{AllByRecursion, filter, flat_map}
use Rattle.std.proofs.Common.{◌≡◌, ℕ, ◌+◌, Bool, true, false, cond, List, [], ◌∷◌, ◌++◌, length, map, sym, refl, ap, subst, ◌∙◌, Option, Some, None, arith, eqb-true}
use Rattle.std.proofs.lemmas.List.{append-nil, map-append, length-append, length-take-le}
use Rattle.std.proofs.lemmas.Bool.{and_parts}
use Rattle.std.proofs.lemmas.Grind.{flat_map-append}
use Rattle.std.proofs.lemmas.Option.{same_Some, none-some}
use Rattle.dp_line.specs.World.{World}
use Rattle.dp_audit.specs.declared.entry.Entry.{Entry}
use Rattle.dp_audit.specs.AuditText.{audit_text, entry_text, header_text, line_text}
use Rattle.audit_heads.specs.Head.{Head}
use Rattle.dp_shared.specs.Content.{Content, head_behind, head_if}
use Rattle.dp_shared.specs.LineLock.{FitsLook, FitsPass, answer_in, first_entries, world_after}
use Rattle.dp_shared.specs.declared.line_view.Look.{Look}
use Rattle.dp_shared.specs.declared.line_view.PassView.{PassView}
use Rattle.dp_shared.specs.declared.line_view.Question.{Question}
use Rattle.dp_shared.specs.declared.line_view.Question.TheVariants as asks
use Rattle.dp_shared.specs.declared.line_view.Answer.{Answer}
use Rattle.dp_shared.specs.declared.line_view.Answer.TheVariants as answers
use Rattle.audit_trail.specs.Trails.{HeadsFollow, asks_behind, asks_head, found, found_by, heads_follow, parts_text, seen_text, without_heads, written_by}
use Rattle.audit_trail.proofs.Trailing.{Seen, entry_of}

-- ---- the text without heads

abbrev row_of : Entry → List ℕ
row_of entry = line_text (entry_text entry)

abbrev rows_seen : List Seen → List ℕ
rows_seen seen = flat_map row_of (map entry_of seen)

abbrev written_of : ℕ → Look → List ℕ
written_of number look = written_by number look.question look.answer

-- but for heads, what is written of a look is the text line of the entry that it found
written_rows : (number : ℕ) (question : Question) (answer : Answer) → asks_head question ≡ false → written_by number question answer ≡ rows_seen (found_by question answer)
written_rows number (asks.Entry place) (answers.Entry (Some entry)) no_head = sym (append-nil (row_of entry))
written_rows number (asks.Entry place) (answers.Entry None) no_head = refl
written_rows number (asks.Entry place) (answers.View view) no_head = refl
written_rows number (asks.Entry place) (answers.Owned list) no_head = refl
written_rows number (asks.Entry place) (answers.Head head) no_head = refl
written_rows number (asks.View address) answer no_head = refl
written_rows number (asks.Owned master) answer no_head = refl
written_rows number (asks.Head count) answer no_head = absurd (let f : true ≡ false = no_head in cc)

-- and a look at a head finds no entry
none_at_head : (question : Question) (answer : Answer) → asks_head question ≡ true → found_by question answer ≡ []
none_at_head (asks.Entry place) answer head = absurd (let f : false ≡ true = head in cc)
none_at_head (asks.View address) answer head = absurd (let f : false ≡ true = head in cc)
none_at_head (asks.Owned master) answer head = absurd (let f : false ≡ true = head in cc)
none_at_head (asks.Head count) answer head = refl

seen_rows : (front back : List Seen) → rows_seen (front ++ back) ≡ rows_seen front ++ rows_seen back
seen_rows front back = ap (flat_map row_of) (map-append entry_of front back) ∙ flat_map-append row_of (map entry_of front) (map entry_of back)

abbrev others : List Look → List Look
others looks = filter (λ (look : Look). not (asks_head look.question)) looks

rest_rows : (number : ℕ) (looks : List Look) → flat_map (written_of number) (others looks) ≡ rows_seen (found looks)
unfolding found
rest_rows number [] = refl
rest_rows number (look ∷ looks) = by (asks_head look.question) refl (rest_rows number looks)
  where
    by : (head : Bool) → asks_head look.question ≡ head → flat_map (written_of number) (others looks) ≡ rows_seen (found looks)
        → flat_map (written_of number) (cond (not head) (look ∷ others looks) (others looks)) ≡ rows_seen (found (look ∷ looks))
    by true is rest = rest ∙ ap (λ (s : List Seen). rows_seen (s ++ found looks)) (sym (none_at_head look.question look.answer is))
    by false is rest =
        ap (λ (r : List ℕ). r ++ flat_map (written_of number) (others looks)) (written_rows number look.question look.answer is)
        ∙ ap (λ (r : List ℕ). rows_seen (found_by look.question look.answer) ++ r) rest
        ∙ sym (seen_rows (found_by look.question look.answer) (found looks))

pub text_without_heads : (version number : ℕ) (looks : List Look) → parts_text version number (without_heads looks) ≡ seen_text version number looks
unfolding audit_text parts_text without_heads
text_without_heads version number looks = ap (λ (r : List ℕ). line_text (header_text version number) ++ r) (rest_rows number looks)

-- ---- the world of a head

follows_there : (n : ℕ) (earlier later : List Look) (look : Look) → heads_follow n (earlier ++ look ∷ later) ≡ true → asks_behind (n + length (found earlier)) look.question ≡ true
unfolding found
follows_there n [] later look follow =
    subst (λ (k : ℕ). asks_behind k look.question ≡ true) (omega arith) (and_parts (asks_behind n look.question) (heads_follow (n + length (found_by look.question look.answer)) later) follow).0
follows_there n (l ∷ earlier) later look follow =
    let more = length-append (found_by l.question l.answer) (found earlier) in
    let next : ℕ = n + length (found_by l.question l.answer) in
    subst (λ (k : ℕ). asks_behind k look.question ≡ true) (omega arith)
    (follows_there next earlier later look (and_parts (asks_behind n l.question) (heads_follow next (earlier ++ look ∷ later)) follow).1)

there : {X : Type 0} (P : X → Type 0) (xs ys : List X) (x : X) → AllByRecursion P (xs ++ x ∷ ys) → P x
there P [] ys x all = all.0
there P (z ∷ xs) ys x all = there P xs ys x all.1

abbrev head_reported : Answer → Option Head
head_reported (answers.Head head) = head
head_reported answer = None

head_is : (same : Bool) (world : World) (entries : List Entry) (head : Head) → Some head ≡ cond same (Some (head_behind world entries)) None → (same ≡ true) × (head ≡ head_behind world entries)
head_is true world entries head is = (refl, same_Some head (head_behind world entries) is)
head_is false world entries head is = absurd (none-some head (sym is))

pub head_of : (content : Content) (pass : PassView) (earlier later : List Look) (look : Look) (count : ℕ) (head : Head) → FitsPass content pass → HeadsFollow pass.looks
    → pass.looks ≡ earlier ++ look ∷ later → look.question ≡ asks.Head count → look.answer ≡ answers.Head (Some head)
    → (count ≡ length (found earlier)) × (head ≡ head_behind (world_after content count) (first_entries content count))
head_of content pass earlier later look count head fits follow is asked answered =
    let fit : FitsLook content look = there (FitsLook content) earlier later look (subst (AllByRecursion (FitsLook content)) is fits.looks) in
    let asked_there : asks_behind (0 + length (found earlier)) look.question ≡ true = follows_there 0 earlier later look (subst HeadsFollow is follow) in
    let behind : count ≡ 0 + length (found earlier) = eqb-true count (0 + length (found earlier)) (sym (ap (asks_behind (0 + length (found earlier))) asked) ∙ asked_there) in
    let seen : Some head ≡ head_if count (world_after content look.count) (first_entries content look.count) = ap head_reported
    (sym answered ∙ fit.value ∙ ap (answer_in content.book.room (world_after content look.count) (first_entries content look.count)) asked) in
    let got = head_is (length (first_entries content look.count) == count) (world_after content look.count) (first_entries content look.count) head seen in
    let same : look.count ≡ count = sym (length-take-le look.count content.book.entries fit.there) ∙ eqb-true (length (first_entries content look.count)) count got.0 in
    (omega (arith, behind), subst (λ (k : ℕ). head ≡ head_behind (world_after content k) (first_entries content k)) same got.1)
