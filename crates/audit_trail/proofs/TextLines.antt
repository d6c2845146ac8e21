-- The text line of a place that a trail saw, and the receipts of that place.
use Rattle.std.specs.Prelude.{get_or, option_map, slice_get, drop}
use Rattle.std.specs.List.{flat_map}
use Rattle.std.proofs.Common.{◌≡◌, ◌⊎◌, ℕ, zero, suc, ◌+◌, ◌-◌, ◌<◌, ◌≤◌, Bool, true, false, cond, ◌==◌, List, [], ◌∷◌, ◌++◌, length, inl, inr, sym, refl, ap, subst, ◌∙◌, Option, Some, None, arith, append_assoc}
use Rattle.std.proofs.lemmas.Option.{same_Some, none-some, slice_get-map}
use Rattle.dp_line.specs.World.{World, start_of, description_of}
use Rattle.dp_line.specs.Effects.{effect}
use Rattle.dp_line.specs.declared.description.LineSpec.{LineSpec}
use Rattle.dp_audit.specs.declared.entry.Entry.{Entry}
use Rattle.dp_audit.specs.declared.entry.Receipt.{Receipt}
use Rattle.dp_audit.specs.AuditText.{entry_text, header_text, line_text}
use Rattle.dp_audit.specs.Legal.{IsLegal, after_entry}
use Rattle.dp_shared.specs.Content.{Content, IsHistory}
use Rattle.dp_shared.specs.LineLock.{FitsPass, IsOf, IsPassAt, LineRule, Slotted, receipt_for}
use Rattle.dp_shared.specs.Numbers.{under}
use Rattle.dp_shared.specs.declared.line_view.Look.{Look}
use Rattle.dp_shared.specs.declared.line_view.PassView.{PassView}
use Rattle.dp_shared.specs.declared.line_view.Question.{Question}
use Rattle.dp_shared.specs.declared.line_view.Question.TheVariants as asks
use Rattle.dp_shared.specs.declared.line_view.Answer.{Answer}
use Rattle.dp_shared.specs.declared.line_view.Answer.TheVariants as answers
use Rattle.audit_trail.specs.TextLines.{HasLineOf, HasTextLine}
use Rattle.audit_trail.specs.Trails.{AreFrom, found, found_by, parts_text, written_by}
use Rattle.audit_trail.proofs.Trailing.{Seen, entry_of, first_entries_of, fits_now, got_in_front, row_written}

-- ---- what was seen at a place

at_place : (n : ℕ) (seen : List Seen) (index : ℕ) → AreFrom (suc n) seen → index < length seen → (entry : Entry) × (slice_get seen index ≡ Some (suc n + index, entry))
at_place n [] index from within = let no : ⊥ = omega (arith, within) in absurd no
at_place n (s ∷ seen) zero from within =
    let first : s.0 ≡ suc n = ap (λ (ps : List ℕ). get_or ps 0 0) from in
    let same : suc n ≡ suc n + 0 = omega arith in
    (s.1, ap (λ (p : ℕ). Some (p, s.1)) (first ∙ same))
at_place n (s ∷ seen) (suc index) from within =
    let behind : AreFrom (suc n + 1) seen = ap (drop 1) from in
    let later : AreFrom (suc (suc n)) seen = subst (λ (k : ℕ). AreFrom k seen) (omega arith) behind in
    let (entry, is) = at_place (suc n) seen index later (omega (arith, within)) in
    let same : suc (suc n) + index ≡ suc n + suc index = omega arith in
    (entry, is ∙ ap (λ (p : ℕ). Some (p, entry)) same)

seen_there : (place : ℕ) (looks : List Look) → AreFrom 1 (found looks) → 1 ≤ place → place ≤ length (found looks)
    → (entry : Entry) × (slice_get (found looks) (place - 1) ≡ Some (place, entry))
seen_there place looks from first within =
    let (entry, is) = at_place zero (found looks) (place - 1) from (omega (arith, first, within)) in
    let same : 1 + (place - 1) ≡ place = omega (arith, first) in
    (entry, is ∙ ap (λ (p : ℕ). Some (p, entry)) same)

-- ---- its text line

abbrev HasPart : List ℕ → List ℕ → Type 0
HasPart text line = (front : List ℕ) × (back : List ℕ) × (text ≡ front ++ (line ++ back))

further : (before text line : List ℕ) → HasPart text line → HasPart (before ++ text) line
further before text line (front, back, is) = (before ++ front, back, ap (λ (t : List ℕ). before ++ t) is ∙ sym (append_assoc before front (line ++ back)))

found_or : (question : Question) (answer : Answer) → (found_by question answer ≡ []) ⊎ ((s : Seen) × (found_by question answer ≡ s ∷ []))
found_or (asks.Entry p) (answers.Entry (Some e)) = inr ((p, e), refl)
found_or (asks.Entry p) (answers.Entry None) = inl refl
found_or (asks.Entry p) (answers.View view) = inl refl
found_or (asks.Entry p) (answers.Owned list) = inl refl
found_or (asks.Entry p) (answers.Head head) = inl refl
found_or (asks.View address) answer = inl refl
found_or (asks.Owned master) answer = inl refl
found_or (asks.Head count) answer = inl refl

abbrev written_of : ℕ → Look → List ℕ
written_of number look = written_by number look.question look.answer

-- of the next look, which found nothing, or an entry
part_behind : (number : ℕ) (rest : List Seen) (texts : List ℕ) (look : Look) (index : ℕ) (s : Seen)
    → ((n : ℕ) → slice_get rest n ≡ Some s → HasPart texts (line_text (entry_text s.1)))
    → (found_by look.question look.answer ≡ []) ⊎ ((t : Seen) × (found_by look.question look.answer ≡ t ∷ []))
    → slice_get (found_by look.question look.answer ++ rest) index ≡ Some s → HasPart (written_of number look ++ texts) (line_text (entry_text s.1))
part_behind number rest texts look index s next (inl none) is =
    further (written_of number look) texts (line_text (entry_text s.1)) (next index (ap (λ (xs : List Seen). slice_get (xs ++ rest) index) (sym none) ∙ is))
part_behind number rest texts look zero s next (inr (t, one)) is =
    let same : t ≡ s = same_Some t s (ap (λ (xs : List Seen). slice_get (xs ++ rest) zero) (sym one) ∙ is) in
    let row : written_of number look ≡ line_text (entry_text s.1) = row_written number look.question look.answer t.0 t.1 one ∙ ap (λ (u : Seen). line_text (entry_text u.1)) same in
    ([], texts, ap (λ (r : List ℕ). r ++ texts) row)
part_behind number rest texts look (suc index) s next (inr (t, one)) is =
    further (written_of number look) texts (line_text (entry_text s.1)) (next index (ap (λ (xs : List Seen). slice_get (xs ++ rest) (suc index)) (sym one) ∙ is))

part_of : (number : ℕ) (looks : List Look) (index : ℕ) (s : Seen) → slice_get (found looks) index ≡ Some s → HasPart (flat_map (written_of number) looks) (line_text (entry_text s.1))
unfolding found
part_of number [] index s is = absurd (none-some s is)
part_of number (look ∷ looks) index s is =
    part_behind number (found looks) (flat_map (written_of number) looks) look index s (λ n. part_of number looks n s) (found_or look.question look.answer) is

text_has : (version number : ℕ) (looks : List Look) (index : ℕ) (s : Seen) → slice_get (found looks) index ≡ Some s → HasPart (parts_text version number looks) (line_text (entry_text s.1))
unfolding parts_text
text_has version number looks index s is =
    further (line_text (header_text version number)) (flat_map (written_of number) looks) (line_text (entry_text s.1)) (part_of number looks index s is)

line_at : (version number place : ℕ) (looks : List Look) (entry : Entry) → slice_get (found looks) (place - 1) ≡ Some (place, entry) → HasTextLine version number place looks entry
line_at version number place looks entry is =
    let (front, back, text) = text_has version number looks (place - 1) (place, entry) is in
    record { there = is; front = front; back = back; text = text }

pub line_seen : (version number place : ℕ) (looks : List Look) → AreFrom 1 (found looks) → 1 ≤ place → place ≤ length (found looks)
    → (entry : Entry) × HasTextLine version number place looks entry
line_seen version number place looks from first within =
    let (entry, is) = seen_there place looks from first within in
    (entry, line_at version number place looks entry is)

-- ---- the entry of a receipt

item_under_by : {A : Type 0} (b : Bool) (rest items : List A) (first : A) (index : ℕ) (item : A) → ((k : ℕ) → slice_get rest k ≡ Some item → (place : ℕ) × (slice_get items place ≡ Some item))
    → slice_get (cond b (first ∷ rest) rest) index ≡ Some item → (place : ℕ) × (slice_get (first ∷ items) place ≡ Some item)
item_under_by true rest items first zero item next is = (zero, is)
item_under_by true rest items first (suc index) item next is = let (place, there) = next index is in (suc place, there)
item_under_by false rest items first index item next is = let (place, there) = next index is in (suc place, there)

item_under : {A : Type 0} (n : ℕ) (numbers : List ℕ) (items : List A) (index : ℕ) (item : A) → slice_get (under n numbers items) index ≡ Some item
    → (place : ℕ) × (slice_get items place ≡ Some item)
item_under n [] items index item is = absurd (none-some item is)
item_under n (number ∷ numbers) [] index item is = absurd (none-some item is)
item_under n (number ∷ numbers) (first ∷ items) index item is =
    item_under_by (number == n) (under n numbers items) items first index item (λ k. item_under n numbers items k item) is

mapped_item : {A B : Type 0} (f : A → B) (o : Option A) (b : B) → option_map f o ≡ Some b → (a : A) × (o ≡ Some a) × (b ≡ f a)
mapped_item f None b is = absurd (none-some b is)
mapped_item f (Some a) b is = (a, refl, sym (same_Some (f a) b is))

count_grows : (world : World) (entry : Entry) → (after_entry world entry).count ≡ world.count + 1
unfolding effect
count_grows world entry = refl

place_is : (world : World) (entries : List Entry) (index : ℕ) (entry : Entry) → IsLegal world entries → slice_get entries index ≡ Some entry → entry.place ≡ world.count + 1 + index
place_is world [] index entry legal is = absurd (none-some entry is)
place_is world (e ∷ entries) zero entry legal is =
    let same : e.place ≡ entry.place = ap (λ (x : Entry). x.place) (same_Some e entry is) in
    let place = legal.0.place in
    omega (arith, same, place)
place_is world (e ∷ entries) (suc index) entry legal is =
    let later = place_is (after_entry world e) entries index entry legal.1 is in
    omega (arith, later, count_grows world e)

entry_of_receipt : (content : Content) (pass : PassView) (index : ℕ) (receipt : Receipt) → FitsPass content pass → slice_get pass.receipts index ≡ Some receipt
    → (entry : Entry) × (receipt ≡ receipt_for entry) × ((at : ℕ) × (slice_get content.book.entries at ≡ Some entry))
entry_of_receipt content pass index receipt fits is =
    let entries = under pass.number content.numbers content.book.entries in
    let mapped : option_map receipt_for (slice_get entries index) ≡ Some receipt =
    sym (slice_get-map receipt_for entries index) ∙ ap (λ (rs : List Receipt). slice_get rs index) (sym fits.receipts) ∙ is in
    let (entry, there, same) = mapped_item receipt_for (slice_get entries index) receipt mapped in
    (entry, same, item_under pass.number content.numbers content.book.entries index entry there)

-- ---- both

seen_in_journal : (content : Content) (tail : PassView) (place : ℕ) (entry : Entry) → FitsPass content tail → AreFrom 1 (found tail.looks)
    → slice_get (found tail.looks) (place - 1) ≡ Some (place, entry) → slice_get content.book.entries (place - 1) ≡ Some entry
seen_in_journal content tail place entry fits from is =
    let seen = found tail.looks in
    got_in_front content.book.entries (length seen) (place - 1) entry
    (ap (λ (es : List Entry). slice_get es (place - 1)) (sym (first_entries_of content tail fits from)) ∙ slice_get-map entry_of seen (place - 1) ∙ ap (option_map entry_of) is)

pub line_of_receipt : (line : LineSpec) (content : Content) (pass tail : PassView) (version place index : ℕ) (receipt : Receipt)
    → IsOf line content.book → IsHistory content → FitsPass content pass → FitsPass content tail → AreFrom 1 (found tail.looks) → place ≤ length (found tail.looks)
    → slice_get pass.receipts index ≡ Some receipt → receipt.place ≡ Some place → HasLineOf content version line.number place tail.looks receipt
line_of_receipt line content pass tail version place index receipt of_line history fits tail_fits from within is placed =
    let (entry, same, (at, there)) = entry_of_receipt content pass index receipt fits is in
    let legal : IsLegal (start_of (description_of line)) content.book.entries = subst (λ (w : World). IsLegal w content.book.entries) of_line.opening history.legal in
    let counted : entry.place ≡ 0 + 1 + at = place_is (start_of (description_of line)) content.book.entries at entry legal there in
    let own : entry.place ≡ place = same_Some entry.place place (ap (λ (r : Receipt). r.place) (sym same) ∙ placed) in
    let (seen, found_it) = seen_there place tail.looks from (omega (arith, counted, own)) within in
    let index_is : at ≡ place - 1 = omega (arith, counted, own) in
    let journal : slice_get content.book.entries (place - 1) ≡ Some entry = subst (λ (k : ℕ). slice_get content.book.entries k ≡ Some entry) index_is there in
    let equal : seen ≡ entry = same_Some seen entry (sym (seen_in_journal content tail place seen tail_fits from found_it) ∙ journal) in
    record {
      entry = entry;
      receipt_is = same;
      in_journal = journal;
      line = subst (HasTextLine version line.number place tail.looks) equal (line_at version line.number place tail.looks seen found_it);
    }

pub line_of_receipt_now : (line : LineSpec) (state : Slotted) (rule : LineRule line state) (i a j b : ℕ) (pass tail : PassView) (version place index : ℕ) (receipt : Receipt)
    → IsPassAt state i a pass → IsPassAt state j b tail → AreFrom 1 (found tail.looks) → place ≤ length (found tail.looks)
    → slice_get pass.receipts index ≡ Some receipt → receipt.place ≡ Some place → HasLineOf rule.content version line.number place tail.looks receipt
line_of_receipt_now line state rule i a j b pass tail version place index receipt at tail_at =
    line_of_receipt line rule.content pass tail version place index receipt rule.of_line rule.history (fits_now line state rule i a pass at) (fits_now line state rule j b tail tail_at)
