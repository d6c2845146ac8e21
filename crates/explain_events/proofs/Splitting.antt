-- The slots of a configuration, one after another, and the texts of their differences.
use Rattle.std.proofs.Common.{◌≡◌, ℕ, ◌+◌, Bool, true, false, if◌then◌else◌, codes, List, [], ◌∷◌, ◌++◌, length, Option, Some, None, refl, ap, sym, arith}
use Rattle.std.specs.Prelude.{is_some, unwrap_or}
use Rattle.std.specs.Option.{option_map}
use Rattle.std.specs.List.{flat_map, join_by}
use Rattle.dp_cfg.specs.Choosing.{same_octets}
use Rattle.explain_octets.specs.Configurations.{slots_of}
use Rattle.explain_events.specs.PrivateWords.{each_behind}
use Rattle.explain_events.specs.Slots.{compared_words, is_whole, other_slot, single_slot, single_slots, slot_differences, slots_in}

-- ---- the first slot, and those behind it

slots_by : (all rest : Option (List (List ℕ))) (slot : List ℕ) → all ≡ option_map (λ others. slot ∷ others) rest → is_some all ≡ true → unwrap_or all [] ≡ slot ∷ unwrap_or rest []
slots_by all None slot e whole = absurd (let none : is_some all ≡ false = ap is_some e in cc)
slots_by all (Some others) slot e whole = ap (λ (o : Option (List (List ℕ))). unwrap_or o []) e

whole_by : (all rest : Option (List (List ℕ))) (slot : List ℕ) → all ≡ option_map (λ others. slot ∷ others) rest → is_some rest ≡ is_some all
whole_by all None slot e = sym (ap is_some e)
whole_by all (Some others) slot e = sym (ap is_some e)

-- the first slot is in front of those behind it
pub slots_in_more : (octets slot behind : List ℕ) → slots_of octets ≡ option_map (λ others. slot ∷ others) (slots_of behind) → is_whole octets ≡ true → slots_in octets ≡ slot ∷ slots_in behind
slots_in_more octets slot behind first whole = slots_by (slots_of octets) (slots_of behind) slot first whole

pub is_whole_more : (octets slot behind : List ℕ) → slots_of octets ≡ option_map (λ others. slot ∷ others) (slots_of behind) → is_whole behind ≡ is_whole octets
is_whole_more octets slot behind first = whole_by (slots_of octets) (slots_of behind) slot first

-- no octets have no slots
pub no_slots : (octets : List ℕ) → length octets ≡ 0 → slots_in octets ≡ []
no_slots [] none = refl
no_slots (head ∷ rest) none = absurd (omega arith)

-- ---- differences of slots

-- by the first of the slots
pub single_more : (separator words : List ℕ) (number : ℕ) (slots rest : List (List ℕ)) (slot : List ℕ) → slots ≡ slot ∷ rest
    → separator ++ single_slot words number slot ++ each_behind (codes "; ") (single_slots words (number + 1) rest) ≡ each_behind separator (single_slots words number slots)
single_more separator words number slots rest slot more = sym (ap (λ (slots : List (List ℕ)). each_behind separator (single_slots words number slots)) more)

pub differences_single : (number : ℕ) (sent : List (List ℕ)) → slot_differences number sent [] ≡ single_slots (codes "is not in the slave") number sent
differences_single number [] = refl
differences_single number (slot ∷ sent) = refl

-- the differences by the first slots, which are the same or others
pub differences_same : (separator : List ℕ) (number : ℕ) (sent own : List (List ℕ)) (slot own_slot : List ℕ) → same_octets slot own_slot ≡ true
    → each_behind separator (slot_differences number (slot ∷ sent) (own_slot ∷ own)) ≡ each_behind separator (slot_differences (number + 1) sent own)
differences_same separator number sent own slot own_slot same =
    ap (λ (b : Bool). each_behind separator ((if b then [] else other_slot number slot own_slot ∷ []) ++ slot_differences (number + 1) sent own)) same

pub differences_other : (separator : List ℕ) (number : ℕ) (sent own sent_rest own_rest : List (List ℕ)) (slot own_slot : List ℕ) → sent ≡ slot ∷ sent_rest → own ≡ own_slot ∷ own_rest → same_octets slot own_slot ≡ false
    → separator ++ other_slot number slot own_slot ++ each_behind (codes "; ") (slot_differences (number + 1) sent_rest own_rest) ≡ each_behind separator (slot_differences number sent own)
differences_other separator number sent own sent_rest own_rest slot own_slot sent_more own_more other =
    sym (rw (sent_more, own_more)
    (ap (λ (b : Bool). each_behind separator ((if b then [] else other_slot number slot own_slot ∷ []) ++ slot_differences (number + 1) sent_rest own_rest)) other))

-- ---- texts with separators before them

more_behind : (texts : List (List ℕ)) → each_behind (codes "; ") texts ≡ flat_map (λ text. codes "; " ++ text) texts
more_behind [] = refl
more_behind (text ∷ texts) = ap (λ (more : List ℕ). codes "; " ++ text ++ more) (more_behind texts)

each_is_joined : (texts : List (List ℕ)) → each_behind [] texts ≡ join_by (λ text. text) (codes "; ") texts
each_is_joined [] = refl
each_is_joined (text ∷ texts) = ap (λ (more : List ℕ). text ++ more) (more_behind texts)

pub differences_are_joined : (sent own : List ℕ) → each_behind [] (slot_differences 1 (slots_in sent) (slots_in own)) ≡ compared_words sent own
differences_are_joined sent own = each_is_joined (slot_differences 1 (slots_in sent) (slots_in own))
