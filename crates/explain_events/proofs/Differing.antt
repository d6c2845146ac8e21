-- Configurations without a difference are the same.
use Rattle.std.proofs.Common.{◌≡◌, ◌≢◌, ℕ, ◌+◌, Bool, true, false, if◌then◌else◌, List, [], ◌∷◌, ◌++◌, Option, Some, None, refl, ap, sym, ◌∙◌}
use Rattle.std.specs.Prelude.{◌==◌, ◌↔◌, is_some, unwrap_or}
use Rattle.std.specs.List.{flat_map}
use Rattle.std.specs.Option.{option_map}
use Rattle.std.proofs.lemmas.Bool.{and_parts, eqb-true}
use Rattle.std.proofs.lemmas.List.Folds.{flat_map-map}
use Rattle.dp_cfg.specs.Choosing.{same_octets}
use Rattle.dp_cfg.specs.Identifiers.{Identifier, IsSplit}
use Rattle.dp_cfg.specs.Reading.{split_of}
use Rattle.explain_octets.specs.Configurations.{octets_of_each}
use Rattle.explain_events.specs.Slots.{is_whole, other_slot, slot_differences, slots_in}

-- ---- slots without a difference

equal_octets : (xs ys : List ℕ) → same_octets xs ys ≡ true → xs ≡ ys
equal_octets [] [] same = refl
equal_octets [] (y ∷ ys) same = absurd cc
equal_octets (x ∷ xs) [] same = absurd cc
equal_octets (x ∷ xs) (y ∷ ys) same =
    let both = and_parts (x == y) (same_octets xs ys) same in
    let first : x ≡ y = eqb-true x y both.0 in
    let others : xs ≡ ys = equal_octets xs ys both.1 in
    cc

equal_by : (slot own_slot : List ℕ) (sent own texts : List (List ℕ)) (text : List ℕ) (b : Bool) → same_octets slot own_slot ≡ b → ((if b then [] else text ∷ []) ++ texts) ≡ [] → (texts ≡ [] → sent ≡ own)
    → slot ∷ sent ≡ own_slot ∷ own
equal_by slot own_slot sent own texts text true same none others =
    let first : slot ≡ own_slot = equal_octets slot own_slot same in
    let rest : sent ≡ own = others none in
    cc
equal_by slot own_slot sent own texts text false same none others = absurd cc

equal_slots : (number : ℕ) (sent own : List (List ℕ)) → slot_differences number sent own ≡ [] → sent ≡ own
equal_slots number [] [] none = refl
equal_slots number [] (own_slot ∷ own) none = absurd cc
equal_slots number (slot ∷ sent) [] none = absurd cc
equal_slots number (slot ∷ sent) (own_slot ∷ own) none =
    equal_by slot own_slot sent own (slot_differences (number + 1) sent own) (other_slot number slot own_slot) (same_octets slot own_slot) refl none (equal_slots (number + 1) sent own)

-- ---- octets by their slots

joined : List (List ℕ) → List ℕ
joined slots = flat_map (λ slot. slot) slots

joined_from : (octets : List ℕ) (o : Option (List Identifier)) → ((ids : List Identifier) → o ≡ Some ids → IsSplit octets ids) → is_some (option_map octets_of_each o) ≡ true
    → joined (unwrap_or (option_map octets_of_each o) []) ≡ octets
unfolding joined
joined_from octets None split whole = absurd cc
joined_from octets (Some ids) split whole =
    flat_map-map (λ slot. slot) (λ (i : Identifier). i.octets) ids ∙ sym (split ids refl).joined

-- equal slots are those of the same octets
pub differ : ((octets : List ℕ) (ids : List Identifier) → IsSplit octets ids ↔ (split_of octets ≡ Some ids)) → (sent own : List ℕ) → is_whole sent ≡ true → is_whole own ≡ true → sent ≢ own
    → slot_differences 1 (slots_in sent) (slots_in own) ≢ []
differ found sent own sent_whole own_whole other none =
    let slots : slots_in sent ≡ slots_in own = equal_slots 1 (slots_in sent) (slots_in own) none in
    let one = joined_from sent (split_of sent) (λ ids e. (found sent ids).1 e) sent_whole in
    let two = joined_from own (split_of own) (λ ids e. (found own ids).1 e) own_whole in
    other (sym one ∙ ap joined slots ∙ two)
