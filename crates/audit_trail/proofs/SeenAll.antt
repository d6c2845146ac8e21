-- A trail that caught up has seen all entries.
use Rattle.std.specs.Prelude.{if◌then◌else◌, nat_le, Bool, slice_get}
use Rattle.std.specs.List.{AllByRecursion}
use Rattle.std.proofs.Common.{◌≡◌, ◌<◌, ◌≤◌, ℕ, zero, suc, ◌+◌, ◌-◌, true, false, List, [], ◌∷◌, ◌++◌, length, map, take, sym, refl, ap, subst, ◌∙◌, Option, Some, None, arith, get_or, drop}
use Rattle.std.proofs.lemmas.Option.{none-some}
use Rattle.dp_audit.specs.declared.entry.Entry.{Entry}
use Rattle.dp_audit.specs.Records.{forgotten, kept_at}
use Rattle.dp_line.specs.declared.description.LineSpec.{LineSpec}
use Rattle.dp_shared.specs.Content.{Content}
use Rattle.dp_shared.specs.LineLock.{FitsLook, FitsPass, IsPassAt, LineRule, Slotted, answer_in, first_entries, world_after}
use Rattle.dp_shared.specs.declared.line_view.Look.{Look}
use Rattle.dp_shared.specs.declared.line_view.PassView.{PassView}
use Rattle.dp_shared.specs.declared.line_view.Question.{Question}
use Rattle.dp_shared.specs.declared.line_view.Question.TheVariants as asks
use Rattle.dp_shared.specs.declared.line_view.Answer.{Answer}
use Rattle.dp_shared.specs.declared.line_view.Answer.TheVariants as answers
use Rattle.audit_trail.specs.Trails.{AreFrom, SawAll, found, found_by}
use Rattle.audit_trail.proofs.Trailing.{Seen, entry_of, fits_now, first_entries_of}

-- ---- lists

each_last : {X : Type 0} (P : X → Type 0) (xs : List X) (x : X) → AllByRecursion P (xs ++ x ∷ []) → P x
each_last P [] x all = all.0
each_last P (y ∷ xs) x all = each_last P xs x all.1

each_of_both : {X : Type 0} (P : X → Type 0) (xs ys : List X) → AllByRecursion P xs → AllByRecursion P ys → AllByRecursion P (xs ++ ys)
each_of_both P [] ys front back = back
each_of_both P (x ∷ xs) ys front back = (front.0, each_of_both P xs ys front.1 back)

got_within : {X : Type 0} (xs : List X) (count index : ℕ) (x : X) → slice_get (take count xs) index ≡ Some x → index < count
got_within xs zero index x is = absurd (none-some x is)
got_within [] (suc count) index x is = absurd (none-some x is)
got_within (y ∷ xs) (suc count) zero x is = omega arith
got_within (y ∷ xs) (suc count) (suc index) x is = let less : index < count = got_within xs count index x is in omega arith

-- ---- a place that was seen is at most the count of entries

abbrev Within : ℕ → Seen → Type 0
Within count seen = seen.0 ≤ count

got_unless : (b : Bool) (entries : List Entry) (count index : ℕ) (entry : Entry) → (if b then None else slice_get (take count entries) index) ≡ Some entry → index < count
got_unless true entries count index entry is = absurd (none-some entry is)
got_unless false entries count index entry is = got_within entries count index entry is

within_by : (room : ℕ) (entries : List Entry) (count most place : ℕ) (o : Option Entry) → count ≤ most → kept_at room (take count entries) place ≡ o
    → AllByRecursion (Within most) (found_by (asks.Entry place) (answers.Entry o))
within_by room entries count most place None less is = tt
within_by room entries count most place (Some entry) less is =
    let before : place - 1 < count = got_unless (nat_le place (forgotten room (length (take count entries)))) entries count (place - 1) entry is in (omega arith, tt)

module _ (content : Content) where
  answered : (most count : ℕ) (question : Question) → count ≤ most
      → AllByRecursion (Within most) (found_by question (answer_in content.book.room (world_after content count) (first_entries content count) question))
  answered most count (asks.View address) less = tt
  answered most count (asks.Owned master) less = tt
  answered most count (asks.Head behind) less = tt
  answered most count (asks.Entry place) less = within_by content.book.room content.book.entries count most place (kept_at content.book.room (take count content.book.entries) place) less refl

  all_within : (most : ℕ) (looks : List Look) → AllByRecursion (FitsLook content) looks → AllByRecursion (λ look. look.count ≤ most) looks
      → AllByRecursion (Within most) (found looks)
  unfolding found
  all_within most [] fits less = tt
  all_within most (l ∷ looks) fits less =
      each_of_both (Within most) (found_by l.question l.answer) (found looks)
      (subst (λ (a : Answer). AllByRecursion (Within most) (found_by l.question a)) (sym fits.0.value) (answered most l.count l.question less.0))
      (all_within most looks fits.1 less.1)

no_more : (n most : ℕ) (seen : List Seen) → n ≤ most → AreFrom (suc n) seen → AllByRecursion (Within most) seen → n + length seen ≤ most
no_more n most [] less from within = omega arith
no_more n most (s ∷ seen) less from within =
    let first : s.0 ≡ suc n = ap (λ (ps : List ℕ). get_or ps 0 0) from in
    let behind : AreFrom (suc n + 1) seen = ap (drop 1) from in
    let later : AreFrom (suc (suc n)) seen = subst (λ (k : ℕ). AreFrom k seen) (omega arith) behind in
    let most_here : s.0 ≤ most = within.0 in
    let rest : suc n + length seen ≤ most = no_more (suc n) most seen (omega arith) later within.1 in
    omega arith

-- ---- the last look

pub all_of : (content : Content) (pass : PassView) (seen : ℕ) → FitsPass content pass → AreFrom 1 (found pass.looks) → length (found pass.looks) ≡ seen
    → (all : SawAll pass.looks seen) → (seen ≡ all.last.count) × (all.last.count ≤ length content.book.entries) × (map entry_of (found pass.looks) ≡ take all.last.count content.book.entries)
all_of content pass seen fits from counted all =
    let fit : AllByRecursion (FitsLook content) (all.earlier ++ all.last ∷ []) = subst (AllByRecursion (FitsLook content)) all.in_order fits.looks in
    let last_fits : FitsLook content all.last = each_last (FitsLook content) all.earlier all.last fit in
    let NoLater : Look → Type 0 = λ look. look.count ≤ all.last.count in
    let none_later : AllByRecursion NoLater (all.earlier ++ all.last ∷ []) = each_of_both NoLater all.earlier (all.last ∷ []) all.latest (omega arith, tt) in
    let within : AllByRecursion (Within all.last.count) (found pass.looks) =
    all_within content all.last.count pass.looks fits.looks (subst (AllByRecursion NoLater) (sym all.in_order) none_later) in
    let most : 0 + length (found pass.looks) ≤ all.last.count = no_more 0 all.last.count (found pass.looks) (omega arith) from within in
    let least : all.last.count ≤ seen = all.reached in
    let same : seen ≡ all.last.count = omega (arith, counted, most, least) in
    (same, last_fits.there, first_entries_of content pass fits from ∙ ap (λ (n : ℕ). take n content.book.entries) (counted ∙ same))

pub all_now : (line : LineSpec) (state : Slotted) (rule : LineRule line state) (seat index : ℕ) (pass : PassView) (seen : ℕ)
    → IsPassAt state seat index pass → AreFrom 1 (found pass.looks) → length (found pass.looks) ≡ seen
    → (all : SawAll pass.looks seen) → (seen ≡ all.last.count) × (all.last.count ≤ length rule.content.book.entries) × (map entry_of (found pass.looks) ≡ take all.last.count rule.content.book.entries)
all_now line state rule seat index pass seen at from counted all =
    all_of rule.content pass seen (fits_now line state rule seat index pass at) from counted all
