-- Octets as one number, which counts up from its low octet.
use Rattle.std.proofs.Common.{◌≡◌, ◌≢◌, ℕ, zero, suc, ◌+◌, ◌-◌, ◌*◌, ◌/◌, ◌%◌, ◌^◌, ◌<◌, ◌≤◌, List, [], ◌∷◌, ◌++◌, length, get_or, take, drop, set, min, inl, inr, refl, sym, ap, ◌∙◌, append_assoc, append-nil, length-append, take-append-drop, arith}
use Rattle.std.specs.Prelude.{replicate}
use Rattle.std.specs.Int.Digits.{number_from_digits}
use Rattle.std.proofs.lemmas.Bool.{cases_lt, cases_eq}
use Rattle.std.proofs.lemmas.Grind.{common_steps}
use Rattle.std.proofs.lemmas.Int.Digits.{number_push, number_more}
use Rattle.std.proofs.lemmas.Nat.{div-mul-add, mod-mul-add, mul-add-lt, mod_below, div-add-mod'}
use Rattle.std.proofs.lemmas.List.{take_all, drop_all, take_more, take-set, drop-set, length-take, length-replicate, take-replicate}
use Rattle.std.proofs.Math.Nat.{pow-suc, mul_assoc, mul_comm, mod-add-mod, add-mod_right}
use Rattle.dp_slave.specs.declared.description.Device.{Device}
use Rattle.dp_slave.specs.declared.description.Device.TheVariants.{Still, Counter, Mirror}
use Rattle.rack_devices.specs.Devices.{AreOctets, in_octets, counted, counted_for, next_inputs}
use Rattle.dp_slave.specs.SlaveRecord.{cut_or_filled}

-- ---- numbers in octets

pub power_pos : (k : ℕ) → 0 < 256 ^ k
power_pos zero = omega arith
power_pos (suc k) = omega (arith, power_pos k, pow-suc 256 k)

-- a number modulo, by its low octet
mod_by_low : (number k : ℕ) → number % 256 ^ suc k ≡ number / 256 % 256 ^ k * 256 + number % 256
mod_by_low number k =
    let P = 256 ^ k in
    let q = number / 256 / P in
    let r = number / 256 % P in
    let low = number % 256 in
    let small : r * 256 + low < 256 * P = mul-add-lt r 256 low P (mod_below (number / 256) P (power_pos k)) (mod_below number 256 (omega arith)) in
    let high : number / 256 ≡ q * P + r = sym (div-add-mod' (number / 256) P) in
    let whole : number ≡ number / 256 * 256 + low = sym (div-add-mod' number 256) in
    let moved : q * P * 256 ≡ q * (256 * P) = mul_assoc q P 256 ∙ ap (λ x. q * x) (mul_comm P 256) in
    let parts : number ≡ q * (256 * P) + (r * 256 + low) = omega (arith, whole, high, moved) in
    ap (λ m. number % m) (pow-suc 256 k ∙ mul_comm P 256)
    ∙ ap (λ n. n % (256 * P)) parts
    ∙ mod-mul-add q (256 * P) (r * 256 + low) small

-- digits beyond this number of octets don't count
in_octets_mod : (k number : ℕ) → in_octets k (number % 256 ^ k) ≡ in_octets k number
in_octets_mod zero number = refl
in_octets_mod (suc k) number =
    let r = number / 256 % 256 ^ k in
    let low = number % 256 in
    let small : low < 256 = mod_below number 256 (omega arith) in
    ap (λ n. in_octets k (n / 256) ++ n % 256 ∷ []) (mod_by_low number k)
    ∙ ap (λ n. in_octets k n ++ (r * 256 + low) % 256 ∷ []) (div-mul-add r 256 low small)
    ∙ ap (λ n. in_octets k r ++ n ∷ []) (mod-mul-add r 256 low small)
    ∙ ap (λ xs. xs ++ low ∷ []) (in_octets_mod k (number / 256))

pub length-in_octets : (k number : ℕ) → length (in_octets k number) ≡ k
length-in_octets zero number = refl
length-in_octets (suc k) number =
    length-append (in_octets k (number / 256)) (number % 256 ∷ []) ∙ omega (arith, length-in_octets k (number / 256))

number_in : (k number : ℕ) → number_from_digits 256 (in_octets k number) ≡ number % 256 ^ k
number_in zero number = omega arith
number_in (suc k) number =
    number_push 256 (in_octets k (number / 256)) (number % 256)
    ∙ ap (λ n. n * 256 + number % 256) (number_in k (number / 256))
    ∙ sym (mod_by_low number k)

-- the octets of the number of some octets are these octets
first_octets : (octets : List ℕ) → AreOctets octets → (k : ℕ) → k ≤ length octets → in_octets k (number_from_digits 256 (take k octets)) ≡ take k octets
first_octets octets are zero within = refl
first_octets octets are (suc k) within =
    let more : k < length octets = omega arith in
    let octet = get_or octets k 0 in
    let number = number_from_digits 256 (take k octets) in
    let next : suc k ≡ k + 1 = omega arith in
    ap (λ i. in_octets (suc k) (number_from_digits 256 (take i octets))) next
    ∙ ap (λ n. in_octets k (n / 256) ++ n % 256 ∷ []) (number_more 256 octets k more)
    ∙ ap (λ n. in_octets k n ++ (number * 256 + octet) % 256 ∷ []) (div-mul-add number 256 octet (are k))
    ∙ ap (λ n. in_octets k number ++ n ∷ []) (mod-mul-add number 256 octet (are k))
    ∙ ap (λ xs. xs ++ octet ∷ []) (first_octets octets are k (omega arith))
    ∙ sym (take_more octets k 0 more)
    ∙ ap (λ i. take i octets) (sym next)

octets_back : (octets : List ℕ) → AreOctets octets → in_octets (length octets) (number_from_digits 256 octets) ≡ octets
octets_back octets are =
    let all : take (length octets) octets ≡ octets = take_all (length octets) octets (omega arith) in
    ap (λ xs. in_octets (length octets) (number_from_digits 256 xs)) (sym all) ∙ first_octets octets are (length octets) (omega arith) ∙ all

-- ---- one more

counted_is : (octets : List ℕ) → counted octets ≡ in_octets (length octets) (number_from_digits 256 octets + 1)
counted_is octets = in_octets_mod (length octets) (number_from_digits 256 octets + 1)

length_one_more : (octets : List ℕ) (octet : ℕ) → length (octets ++ octet ∷ []) ≡ suc (length octets)
length_one_more octets octet = length-append octets (octet ∷ []) ∙ omega arith

-- all ones in the low octet are carried
carried : (octets : List ℕ) → counted (octets ++ 255 ∷ []) ≡ counted octets ++ 0 ∷ []
carried octets =
    let number = number_from_digits 256 octets in
    let next : number * 256 + 255 + 1 ≡ (number + 1) * 256 + 0 = omega arith in
    counted_is (octets ++ 255 ∷ [])
    ∙ ap (λ k. in_octets k (number_from_digits 256 (octets ++ 255 ∷ []) + 1)) (length_one_more octets 255)
    ∙ ap (λ n. in_octets (suc (length octets)) (n + 1)) (number_push 256 octets 255)
    ∙ ap (in_octets (suc (length octets))) next
    ∙ ap (λ n. in_octets (length octets) n ++ ((number + 1) * 256 + 0) % 256 ∷ []) (div-mul-add (number + 1) 256 0 (omega arith))
    ∙ ap (λ n. in_octets (length octets) (number + 1) ++ n ∷ []) (mod-mul-add (number + 1) 256 0 (omega arith))
    ∙ ap (λ xs. xs ++ 0 ∷ []) (sym (counted_is octets))

-- any other low octet is counted up, and only this octet changes
counted_alone : (octets : List ℕ) (octet : ℕ) → in_octets (length octets) (number_from_digits 256 octets) ≡ octets → octet < 255
    → counted (octets ++ octet ∷ []) ≡ octets ++ (octet + 1) ∷ []
counted_alone octets octet back small =
    let number = number_from_digits 256 octets in
    let next : number * 256 + octet + 1 ≡ number * 256 + (octet + 1) = omega arith in
    counted_is (octets ++ octet ∷ [])
    ∙ ap (λ k. in_octets k (number_from_digits 256 (octets ++ octet ∷ []) + 1)) (length_one_more octets octet)
    ∙ ap (λ n. in_octets (suc (length octets)) (n + 1)) (number_push 256 octets octet)
    ∙ ap (in_octets (suc (length octets))) next
    ∙ ap (λ n. in_octets (length octets) n ++ (number * 256 + (octet + 1)) % 256 ∷ []) (div-mul-add number 256 (octet + 1) (omega arith))
    ∙ ap (λ n. in_octets (length octets) number ++ n ∷ []) (mod-mul-add number 256 (octet + 1) (omega arith))
    ∙ ap (λ xs. xs ++ (octet + 1) ∷ []) back

-- ---- starting at the low octet

-- 1 is still to be added to the first `index` octets
abbrev pub to_count : ℕ → List ℕ → List ℕ
to_count index octets = counted (take index octets) ++ drop index octets

pub to_count_all : (octets : List ℕ) → to_count (length octets) octets ≡ counted octets
to_count_all octets =
    ap (λ xs. counted xs ++ drop (length octets) octets) (take_all (length octets) octets (omega arith))
    ∙ ap (λ xs. counted octets ++ xs) (drop_all (length octets) octets (omega arith))
    ∙ append-nil (counted octets)

pub to_count_less : (octets : List ℕ) (index : ℕ) → index < length octets → get_or octets index 0 ≡ 255 → to_count (index + 1) octets ≡ to_count index (set octets index 0)
to_count_less octets index within ones =
    let rest = drop (index + 1) octets in
    ap (λ xs. counted xs ++ rest) (take_more octets index 0 within ∙ ap (λ o. take index octets ++ o ∷ []) ones)
    ∙ ap (λ xs. xs ++ rest) (carried (take index octets))
    ∙ append_assoc (counted (take index octets)) (0 ∷ []) rest
    ∙ sym (ap (λ xs. counted xs ++ drop index (set octets index 0)) (take-set octets index 0) ∙ ap (λ xs. counted (take index octets) ++ xs) (drop-set octets index 0 within))

pub to_count_done : (octets : List ℕ) (index : ℕ) → AreOctets octets → index < length octets → get_or octets index 0 < 255
    → to_count (index + 1) octets ≡ set octets index (get_or octets index 0 + 1)
to_count_done octets index are within small =
    let rest = drop (index + 1) octets in
    let octet = get_or octets index 0 in
    let long : length (take index octets) ≡ index = omega (arith, length-take index octets) in
    let back : in_octets (length (take index octets)) (number_from_digits 256 (take index octets)) ≡ take index octets =
    ap (λ k. in_octets k (number_from_digits 256 (take index octets))) long ∙ first_octets octets are index (omega arith) in
    let written = set octets index (octet + 1) in
    ap (λ xs. counted xs ++ rest) (take_more octets index 0 within)
    ∙ ap (λ xs. xs ++ rest) (counted_alone (take index octets) octet back small)
    ∙ append_assoc (take index octets) ((octet + 1) ∷ []) rest
    ∙ sym (ap (λ xs. xs ++ drop index written) (take-set octets index (octet + 1)) ∙ ap (λ xs. take index octets ++ xs) (drop-set octets index (octet + 1) within))
    ∙ take-append-drop index written

pub octets_less : (octets : List ℕ) (index : ℕ) → AreOctets octets → AreOctets (set octets index 0)
octets_less octets index are = λ i. elim (cases_eq i index) [
  | inl same ↦ grind (arith, common_steps, same)
  | inr other ↦ grind (arith, common_steps, are i, other)
]

-- ---- many steps

one_more : (k number : ℕ) → counted (in_octets k number) ≡ in_octets k (number + 1)
one_more k number =
    let octets = in_octets k number in
    counted_is octets
    ∙ ap (λ count. in_octets count (number_from_digits 256 octets + 1)) (length-in_octets k number)
    ∙ ap (λ n. in_octets k (n + 1)) (number_in k number)
    ∙ sym (in_octets_mod k (number % 256 ^ k + 1))
    ∙ ap (in_octets k) (mod-add-mod number (256 ^ k) 1)
    ∙ in_octets_mod k (number + 1)

counted_so_far : (steps : ℕ) (octets : List ℕ) → AreOctets octets → counted_for steps octets ≡ in_octets (length octets) (number_from_digits 256 octets + steps)
counted_so_far zero octets are =
    let same : number_from_digits 256 octets ≡ number_from_digits 256 octets + 0 = omega arith in
    sym (octets_back octets are) ∙ ap (in_octets (length octets)) same
counted_so_far (suc steps) octets are =
    let number = number_from_digits 256 octets in
    let next : number + steps + 1 ≡ number + suc steps = omega arith in
    ap counted (counted_so_far steps octets are) ∙ one_more (length octets) (number + steps) ∙ ap (in_octets (length octets)) next

pub number_counted : (steps : ℕ) (octets : List ℕ) → AreOctets octets
    → number_from_digits 256 (counted_for steps octets) ≡ (number_from_digits 256 octets + steps) % 256 ^ length octets
number_counted steps octets are = ap (number_from_digits 256) (counted_so_far steps octets are) ∙ number_in (length octets) (number_from_digits 256 octets + steps)

pub comes_round : (octets : List ℕ) → AreOctets octets → counted_for (256 ^ length octets) octets ≡ octets
comes_round octets are =
    let number = number_from_digits 256 octets in
    let all = 256 ^ length octets in
    counted_so_far all octets are
    ∙ sym (in_octets_mod (length octets) (number + all))
    ∙ ap (in_octets (length octets)) (add-mod_right number all)
    ∙ in_octets_mod (length octets) number
    ∙ octets_back octets are

pub not_before : (octets : List ℕ) (steps : ℕ) → AreOctets octets → 0 < steps → steps < 256 ^ length octets → counted_for steps octets ≢ octets
not_before octets steps are some few same =
    let number = number_from_digits 256 octets in
    let all = 256 ^ length octets in
    let back : number ≡ number % all = ap (number_from_digits 256) (sym (octets_back octets are)) ∙ number_in (length octets) number in
    let small : number < all = omega (arith, back, mod_below number all (power_pos (length octets))) in
    let again : (number + steps) % all ≡ number = sym (number_counted steps octets are) ∙ ap (number_from_digits 256) same in
    apart number steps all small some few again
  where
    apart : (number steps all : ℕ) → number < all → 0 < steps → steps < all → (number + steps) % all ≡ number → ⊥
    apart number steps all small some few again = elim (cases_lt (number + steps) all) [
      | inl less ↦
          let sum : number + steps ≡ 0 * all + (number + steps) = omega arith in
          omega (arith, again, ap (λ n. n % all) sum, mod-mul-add 0 all (number + steps) less)
      | inr more ↦
          let over : number + steps - all < all = omega arith in
          let sum : number + steps ≡ 1 * all + (number + steps - all) = omega arith in
          omega (arith, again, ap (λ n. n % all) sum, mod-mul-add 1 all (number + steps - all) over)
    ]

-- ---- cut or filled

pub length_cut_or_filled : (count : ℕ) (octets : List ℕ) → length (take count octets ++ replicate (count - length octets) 0) ≡ count
length_cut_or_filled count octets =
    length-append (take count octets) (replicate (count - length octets) 0) ∙ omega (arith, length-take count octets, length-replicate {A = ℕ} (count - length octets) 0)

pub lengths_stay : (device : Device) (inputs outputs : List ℕ) → length (next_inputs device inputs outputs) ≡ length inputs
lengths_stay Still inputs outputs = refl
lengths_stay Counter inputs outputs = length-in_octets (length inputs) ((number_from_digits 256 inputs + 1) % 256 ^ length inputs)
lengths_stay Mirror inputs outputs = length_cut_or_filled (length inputs) outputs

-- at most 244 zeros, cut to the number that is missing
pub cut_and_filled : (count : ℕ) (octets : List ℕ) → count ≤ 244
    → take (min count (length octets)) octets ++ take (count - min count (length octets)) (replicate 244 0) ≡ cut_or_filled count octets
cut_and_filled count octets few = elim (cases_lt (length octets) count) [
  | inl fewer ↦
      let shared : min count (length octets) ≡ length octets = omega arith in
      ap (λ n. take n octets ++ take (count - n) (replicate 244 0)) shared
      ∙ ap (λ xs. xs ++ take (count - length octets) (replicate 244 0)) (take_all (length octets) octets (omega arith) ∙ sym (take_all count octets (omega arith)))
      ∙ ap (λ xs. take count octets ++ xs) (take-replicate (count - length octets) 244 0 (omega arith))
  | inr enough ↦
      let shared : min count (length octets) ≡ count = omega arith in
      let none : count - count ≡ 0 = omega arith in
      let missing : count - length octets ≡ 0 = omega arith in
      ap (λ n. take n octets ++ take (count - n) (replicate 244 0)) shared
      ∙ ap (λ n. take count octets ++ take n (replicate 244 0)) none
      ∙ ap (λ n. take count octets ++ replicate n 0) (sym missing)
]
