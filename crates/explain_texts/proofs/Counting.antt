-- The first counts that are for a sender are changed.
use Rattle.std.proofs.Common.{◌≡◌, ℕ, ◌+◌, ◌<◌, ◌≤◌, true, false, List, [], ◌∷◌, ◌++◌, length, get_or, take, drop, Option, refl, sym, ap, ◌∙◌, append_assoc, add-one}
use Rattle.std.proofs.Math.ListN.{set}
use Rattle.std.proofs.lemmas.Bool.{cond-false, cond-true}
use Rattle.std.proofs.lemmas.List.{append-nil, drop_all, get_or_default, set-get_or, set_split, take_all, take_more}
use Rattle.explain_events.specs.declared.way.Answered.{Answered}
use Rattle.explain_texts.specs.declared.tally.SenderCounts.{SenderCounts}
use Rattle.explain_texts.specs.Tallies.{counted, is_for_sender, one_more}
use Rattle.explain_texts.proofs.Edits.{drop_item}

-- nothing is changed yet, and no counts before the index are for the sender
pub record IsPassed (master : ℕ) (way : Option Answered) (first current : List SenderCounts) (index : ℕ) : Type 0 where
  pub same : current ≡ first
  pub passed : counted master way first ≡ take index first ++ counted master way (drop index first)

pub none_passed : (master : ℕ) (way : Option Answered) (tally : List SenderCounts) → IsPassed master way tally tally 0
none_passed master way tally = record { same = refl; passed = refl }

-- the counts at the index come next
next_is : (master : ℕ) (way : Option Answered) (first : List SenderCounts) (index : ℕ) (item : SenderCounts) → index < length first → item ≡ get_or first index item
    → counted master way first ≡ take index first ++ counted master way (drop index first)
    → counted master way first ≡ take index first ++ counted master way (item ∷ drop (index + 1) first)
next_is master way first index item within is passed =
    passed ∙ ap (λ (l : List SenderCounts). take index first ++ counted master way l) (drop_item first index item within is)

taken_more : (first : List SenderCounts) (index : ℕ) (item : SenderCounts) → index < length first → item ≡ get_or first index item → take (index + 1) first ≡ take index first ++ item ∷ []
taken_more first index item within is = take_more first index item within ∙ ap (λ (x : SenderCounts). take index first ++ x ∷ []) (sym is)

passed_by : (master : ℕ) (way : Option Answered) (first : List SenderCounts) (index : ℕ) (item : SenderCounts) → index < length first → item ≡ get_or first index item
    → is_for_sender master item ≡ false → counted master way first ≡ take index first ++ counted master way (drop index first)
    → counted master way first ≡ take (index + 1) first ++ counted master way (drop (index + 1) first)
passed_by master way first index item within is other passed =
    let rest = counted master way (drop (index + 1) first) in
    next_is master way first index item within is passed
    ∙ ap (λ (l : List SenderCounts). take index first ++ l) (cond-false (is_for_sender master item) (one_more way item ∷ drop (index + 1) first) (item ∷ rest) other)
    ∙ sym (append_assoc (take index first) (item ∷ []) rest)
    ∙ ap (λ (l : List SenderCounts). l ++ rest) (sym (taken_more first index item within is))

here_by : (master : ℕ) (way : Option Answered) (first : List SenderCounts) (index : ℕ) (item : SenderCounts) → index < length first → item ≡ get_or first index item
    → is_for_sender master item ≡ true → counted master way first ≡ take index first ++ counted master way (drop index first)
    → set first index (one_more way item) ≡ counted master way first
here_by master way first index item within is mine passed =
    set_split first index (one_more way item) within
    ∙ ap (λ (n : ℕ). take index first ++ one_more way item ∷ drop n first) (sym (add-one index))
    ∙ ap (λ (l : List SenderCounts). take index first ++ l)
    (sym (cond-true (is_for_sender master item) (one_more way item ∷ drop (index + 1) first) (item ∷ counted master way (drop (index + 1) first)) mine))
    ∙ sym (next_is master way first index item within is passed)

-- the counts at the index are not for the sender
pub one_passed : (master : ℕ) (way : Option Answered) (first current : List SenderCounts) (index : ℕ) (default : SenderCounts) → index < length first
    → is_for_sender master (get_or current index default) ≡ false → IsPassed master way first current index
    → IsPassed master way first (set current index (get_or current index default)) (index + 1)
one_passed master way first current index default within other passed =
    let item = get_or current index default in
    let is : item ≡ get_or first index item = ap (λ (l : List SenderCounts). get_or l index default) passed.same ∙ get_or_default first index default item within in
    record {
      same = set-get_or current index default ∙ passed.same;
      passed = passed_by master way first index item within is other passed.passed;
    }

-- the counts at the index are for the sender
pub counted_here : (master : ℕ) (way : Option Answered) (first current : List SenderCounts) (index : ℕ) (default changed : SenderCounts) → index < length first
    → is_for_sender master (get_or current index default) ≡ true → IsPassed master way first current index → changed ≡ one_more way (get_or current index default)
    → set current index changed ≡ counted master way first
counted_here master way first current index default changed within mine passed changes =
    let item = get_or current index default in
    let is : item ≡ get_or first index item = ap (λ (l : List SenderCounts). get_or l index default) passed.same ∙ get_or_default first index default item within in
    ap (set current index) changes
    ∙ ap (λ (l : List SenderCounts). set l index (one_more way item)) passed.same
    ∙ here_by master way first index item within is mine passed.passed

-- no counts are for the sender
pub all_passed : (master : ℕ) (way : Option Answered) (first current : List SenderCounts) (index : ℕ) → length first ≤ index → IsPassed master way first current index
    → current ≡ counted master way first
all_passed master way first current index over passed =
    passed.same
    ∙ sym (take_all index first over)
    ∙ sym (append-nil (take index first))
    ∙ ap (λ (l : List SenderCounts). take index first ++ counted master way l) (sym (drop_all index first over))
    ∙ sym passed.passed
