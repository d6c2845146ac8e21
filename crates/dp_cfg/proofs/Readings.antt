-- What a reading says about the split.
use Rattle.std.proofs.Common.{◌≡◌, ℕ, ◌<◌, ◌≤◌, ◌⊎◌, inl, inr, Bool, true, false, cond, List, [], ap, sym, ◌∙◌, refl, Option, Some, None, Result, Ok, Err, arith}
use Rattle.std.specs.Prelude.{unwrap_or, nat_lt, ◌||◌, IsOk, IsErrOf, ◌↔◌}
use Rattle.std.specs.Option.{option_map}
use Rattle.std.proofs.lemmas.Bool.{or_parts, or_cases, or_left, or_right, or_from, ltb-true, ltb-false, lt-ltb, le-ltb, cond-true, cond-false}
use Rattle.std.proofs.lemmas.Option.{same_Some}
use Rattle.dp_cfg.specs.Identifiers.{Identifier, IsSplit, input_sum, output_sum, most_octets}
use Rattle.dp_cfg.specs.Reading.{split_of, input_octets, output_octets, fault_in, fault_of, unless_faulty, reading_of}
use Rattle.dp_cfg.specs.PrivateWords.{sums_of}
use Rattle.dp_cfg.specs.declared.fault.CfgFault.{CfgFault}
use Rattle.dp_cfg.specs.declared.fault.CfgFault.TheVariants.{Cut, TooLong}
use Rattle.dp_cfg.proofs.Splits.{split_found, split_is}

pub input_octets_are : (octets : List ℕ) (ids : List Identifier) → IsSplit octets ids → input_octets octets ≡ input_sum ids
input_octets_are octets ids split = ap (λ o. input_sum (unwrap_or o [])) (split_found octets ids split)

pub output_octets_are : (octets : List ℕ) (ids : List Identifier) → IsSplit octets ids → output_octets octets ≡ output_sum ids
output_octets_are octets ids split = ap (λ o. output_sum (unwrap_or o [])) (split_found octets ids split)

-- what each answer means for the split
abbrev pub IsFitting : List ℕ → Type 0
IsFitting octets = (ids : List Identifier) × IsSplit octets ids × (input_sum ids ≤ most_octets) × (output_sum ids ≤ most_octets)

abbrev pub IsCut : List ℕ → Type 0
IsCut octets = (ids : List Identifier) → ¬ IsSplit octets ids

abbrev pub IsTooLong : List ℕ → Type 0
IsTooLong octets = (ids : List Identifier) × IsSplit octets ids × ((most_octets < input_sum ids) ⊎ (most_octets < output_sum ids))

-- the test of the sums
abbrev is_above : List Identifier → Bool
is_above ids = nat_lt most_octets (input_sum ids) || nat_lt most_octets (output_sum ids)

not_above : (ids : List Identifier) → is_above ids ≡ false → (input_sum ids ≤ most_octets) × (output_sum ids ≤ most_octets)
not_above ids e =
    let both : (nat_lt most_octets (input_sum ids) ≡ false) × (nat_lt most_octets (output_sum ids) ≡ false) = or_parts _ _ e in
    (ltb-false _ _ both.0, ltb-false _ _ both.1)

above : (ids : List Identifier) → is_above ids ≡ true → (most_octets < input_sum ids) ⊎ (most_octets < output_sum ids)
above ids e = elim (or_cases _ _ e) [ inl a ↦ inl (ltb-true _ _ a) | inr b ↦ inr (ltb-true _ _ b) ]

above_from : (ids : List Identifier) → (most_octets < input_sum ids) ⊎ (most_octets < output_sum ids) → is_above ids ≡ true
above_from ids (inl a) = or_left _ _ (lt-ltb _ _ a)
above_from ids (inr b) = or_right _ _ (lt-ltb _ _ b)

-- each answer, with its meaning for the split
data Answer (octets : List ℕ) (fault : Option CfgFault) : Type 0 where
  fits : fault ≡ None → IsFitting octets → Answer octets fault
  is_cut : fault ≡ Some Cut → IsCut octets → Answer octets fault
  is_long : fault ≡ Some TooLong → IsTooLong octets → Answer octets fault

answer_above : (octets : List ℕ) (ids : List Identifier) (b : Bool) → IsSplit octets ids → is_above ids ≡ b → Answer octets (cond b (Some TooLong) None)
answer_above octets ids true split e = is_long refl (ids, split, above ids e)
answer_above octets ids false split e = let h = not_above ids e in fits refl (ids, split, h.0, h.1)

answer_in : (octets : List ℕ) (o : Option (List Identifier)) → split_of octets ≡ o → Answer octets (fault_in o)
answer_in octets None e = is_cut refl (λ ids split. let f : None ≡ Some ids = sym e ∙ split_found octets ids split in cc)
answer_in octets (Some ids) e = answer_above octets ids (is_above ids) (split_is octets ids e) refl

answer_of : (octets : List ℕ) → Answer octets (fault_of octets)
answer_of octets = answer_in octets (split_of octets) refl

-- and that meaning determines the answer
fitting_answer : (octets : List ℕ) → IsFitting octets → fault_of octets ≡ None
fitting_answer octets h = ap fault_in (split_found octets h.0 h.1) ∙ cond-false _ _ _ (or_from _ _ (le-ltb _ _ h.2) (le-ltb _ _ h.3))

long_answer : (octets : List ℕ) → IsTooLong octets → fault_of octets ≡ Some TooLong
long_answer octets h = ap fault_in (split_found octets h.0 h.1) ∙ cond-true _ _ _ (above_from h.0 h.2)

cut_answer_in : (octets : List ℕ) (fault : Option CfgFault) → Answer octets fault → IsCut octets → fault ≡ Some Cut
cut_answer_in octets fault (fits e h) cut = absurd (cut h.0 h.1)
cut_answer_in octets fault (is_cut e h) cut = e
cut_answer_in octets fault (is_long e h) cut = absurd (cut h.0 h.1)

module _ {A : Type 0} where
  pub right_from : (fault : Option CfgFault) (x y : A) → Ok y ≡ unless_faulty fault x → (fault ≡ None) × (y ≡ x)
  right_from None x y e = (refl, cc)
  right_from (Some f) x y e = cc

  pub fault_from : (fault : Option CfgFault) (x : A) (f : CfgFault) → Err f ≡ unless_faulty fault x → fault ≡ Some f
  fault_from None x f e = cc
  fault_from (Some g) x f e = cc

-- the clauses of a reading
fits_in : (octets : List ℕ) (fault : Option CfgFault) → Answer octets fault → IsOk (unless_faulty fault octets) → IsFitting octets
fits_in octets fault (fits e h) ok = h
fits_in octets fault (is_cut e h) ok = let f : IsOk (unless_faulty (Some Cut) octets) = rw e at ok in cc
fits_in octets fault (is_long e h) ok = let f : IsOk (unless_faulty (Some TooLong) octets) = rw e at ok in cc

-- what is read is a split that fits
pub fitting_of : (octets : List ℕ) → reading_of octets ≡ Ok octets → IsFitting octets
fitting_of octets e = fits_in octets (fault_of octets) (answer_of octets) (rw e refl)

pub ok_clause : (octets : List ℕ) (r : Result (List ℕ) CfgFault) → r ≡ reading_of octets → IsOk r ↔ IsFitting octets
ok_clause octets r e = (
  λ ok. fits_in octets (fault_of octets) (answer_of octets) (rw e at ok),
  λ h. rw (e, fitting_answer octets h),
)

cut_in : (octets : List ℕ) (fault : Option CfgFault) → Answer octets fault → fault ≡ Some Cut → IsCut octets
cut_in octets fault (fits e h) f = cc
cut_in octets fault (is_cut e h) f = h
cut_in octets fault (is_long e h) f = cc

pub cut_clause : (octets : List ℕ) (r : Result (List ℕ) CfgFault) → r ≡ reading_of octets → IsErrOf r Cut ↔ IsCut octets
cut_clause octets r e = (
  λ f. cut_in octets (fault_of octets) (answer_of octets) (fault_from (fault_of octets) octets Cut (sym f ∙ e)),
  λ h. e ∙ ap (λ fault. unless_faulty fault octets) (cut_answer_in octets (fault_of octets) (answer_of octets) h),
)

long_in : (octets : List ℕ) (fault : Option CfgFault) → Answer octets fault → fault ≡ Some TooLong → IsTooLong octets
long_in octets fault (fits e h) f = cc
long_in octets fault (is_cut e h) f = cc
long_in octets fault (is_long e h) f = h

pub long_clause : (octets : List ℕ) (r : Result (List ℕ) CfgFault) → r ≡ reading_of octets → IsErrOf r TooLong ↔ IsTooLong octets
long_clause octets r e = (
  λ f. long_in octets (fault_of octets) (answer_of octets) (fault_from (fault_of octets) octets TooLong (sym f ∙ e)),
  λ h. e ∙ ap (λ fault. unless_faulty fault octets) (long_answer octets h),
)

-- the sums that were counted
counted_in : (i o : ℕ) (split : Option (List Identifier)) → Some (i, o) ≡ option_map sums_of split → (ids : List Identifier) × (split ≡ Some ids) × (i ≡ input_sum ids) × (o ≡ output_sum ids)
counted_in i o None e = cc
counted_in i o (Some ids) e =
    let t : (i, o) ≡ sums_of ids = same_Some (i, o) (sums_of ids) e in
    (ids, refl, ap (λ (x : ℕ × ℕ). x.0) t, ap (λ (x : ℕ × ℕ). x.1) t)

pub counted : (octets : List ℕ) (i o : ℕ) → Some (i, o) ≡ option_map sums_of (split_of octets) → (input_octets octets ≡ i) × (output_octets octets ≡ o)
counted octets i o e =
    let h = counted_in i o (split_of octets) e in
    (ap (λ s. input_sum (unwrap_or s [])) h.1 ∙ sym h.2, ap (λ s. output_sum (unwrap_or s [])) h.1 ∙ sym h.3)

pub counted_fits : (octets : List ℕ) (i o : ℕ) → Some (i, o) ≡ option_map sums_of (split_of octets) → i ≤ most_octets → o ≤ most_octets → fault_of octets ≡ None
counted_fits octets i o e p q =
    let h = counted_in i o (split_of octets) e in
    fitting_answer octets (h.0, split_is octets h.0 h.1, omega (arith, h.2), omega (arith, h.3))

pub counted_above : (octets : List ℕ) (i o : ℕ) → Some (i, o) ≡ option_map sums_of (split_of octets) → (most_octets < i) ⊎ (most_octets < o) → fault_of octets ≡ Some TooLong
counted_above octets i o e p =
    let h = counted_in i o (split_of octets) e in
    long_answer octets (h.0, split_is octets h.0 h.1, elim p [ inl a ↦ inl (omega (arith, h.2)) | inr b ↦ inr (omega (arith, h.3)) ])
