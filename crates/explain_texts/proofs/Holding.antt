-- Holds that are appended one after another.
use native.Mathlib.Omega.{arith}
use Rattle.std.proofs.Common.{◌≡◌, ℕ, ◌-◌, ◌≤◌, List, [], ◌∷◌, ◌++◌, length, drop, take, Option, Result, Ok, Err, OnOk, refl, sym, ap, ◌∙◌, append_assoc}
use Rattle.std.specs.List.{flat_map}
use Rattle.std.proofs.lemmas.List.{take_all}
use Rattle.std.proofs.lemmas.List.Concat.{flat_map-cons}
use lib.ListN.{get_or}
use Rattle.explain_texts.specs.declared.hold.Hold.{Hold}
use Rattle.explain_texts.specs.Holds.{hold_list}

-- the first and the others
parts_are : {A : Type 0} (items : List A) (first : A) → 1 ≤ length items → first ≡ get_or items 0 first → first ∷ take (length items - 1) (drop 1 items) ≡ items
parts_are {A} [] first some is = absurd (omega (arith, some))
parts_are {A} (item ∷ items) first some is =
    ap (λ (x : A). x ∷ take (length (item ∷ items) - 1) items) is ∙ ap (λ (xs : List A). item ∷ xs) (take_all (length (item ∷ items) - 1) items (omega arith))

more_by : {A : Type 0} (f : A → List Hold) (first : A) (others items : List A) (old now new one : List Hold) → first ∷ others ≡ items → one ≡ f first → now ≡ old ++ one → new ≡ now ++ flat_map f others → new ≡ old ++ flat_map f items
more_by f first others items old now new one are is here more =
    more
    ∙ ap (λ (holds : List Hold). holds ++ flat_map f others) (here ∙ ap (λ (holds : List Hold). old ++ holds) is)
    ∙ append_assoc old (f first) (flat_map f others)
    ∙ ap (λ (holds : List Hold). old ++ holds) (sym (flat_map-cons f first others))
    ∙ ap (λ xs. old ++ flat_map f xs) are

-- the holds of the first, and then those of the others
pub holds_pushed : {A T E : Type 0} (f : A → List Hold) (result : Result T E) (old now new : List Hold) (items : List A) (first : A) (one : Option Hold) → 1 ≤ length items → first ≡ get_or items 0 first → hold_list one ≡ f first
    → now ≡ old ++ hold_list one → OnOk result (new ≡ now ++ flat_map f (take (length items - 1) (drop 1 items))) → OnOk result (new ≡ old ++ flat_map f items)
holds_pushed f (Ok value) old now new items first one some is shown here more =
    more_by f first (take (length items - 1) (drop 1 items)) items old now new (hold_list one) (parts_are items first some is) shown here more
holds_pushed f (Err fault) old now new items first one some is shown here more = tt

-- the same for numbers, of which the first is read by its index
pub octets_pushed : {T E : Type 0} (f : ℕ → List Hold) (result : Result T E) (old now new : List Hold) (items : List ℕ) (one : Option Hold) → 1 ≤ length items → hold_list one ≡ f (get_or items 0 0)
    → now ≡ old ++ hold_list one → OnOk result (new ≡ now ++ flat_map f (take (length items - 1) (drop 1 items))) → OnOk result (new ≡ old ++ flat_map f items)
octets_pushed f result old now new [] one some shown here more = absurd (omega (arith, some))
octets_pushed f result old now new (item ∷ items) one some shown here more = holds_pushed f result old now new (item ∷ items) item one some refl shown here more
