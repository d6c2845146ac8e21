-- The word of a value is read back.
use Rattle.std.proofs.Common.{◌≡◌, ℕ, ◌^◌, ◌<◌, ◌≤◌, ◌==◌, Bool, true, false, not, cond, List, get_or, Option, Some, None, inl, inr, refl, ap, ◌∙◌, arith}
use Rattle.std.specs.Prelude.{option_map, IfSome}
use Rattle.std.specs.Fmt.{decimal}
use Rattle.std.proofs.lemmas.Bool.{cases_Bool, cond-true, cond-false}
use Rattle.std.proofs.lemmas.Fmt.{digits_decimal, decimal_nonempty}
use Rattle.std.proofs.lemmas.Str.Parse.{not_in_digits}
use Rattle.dp_sap.specs.declared.state.State.{State}
use Rattle.dp_sap.specs.declared.state.State.TheVariants.{WaitPrm, WaitCfg, DataExch}
use Rattle.dp_sap.specs.Names.{state_name}
use Rattle.dp_text.specs.Numbers.{number_to}
use Rattle.dp_text.specs.Words.{same_text}
use Rattle.dp_text.proofs.ReadBack.{number_read, own, same_is}
use Rattle.audit_heads.specs.FieldWords.{bit_of_word, bit_word, halted_of_word, halted_word, is_letter, optional_of, optional_word, state_of_word}
use Rattle.audit_heads.proofs.Plain.{same_itself}

-- ---- numbers

-- no number begins with this octet
is_no_name : (number : ℕ) (name : List ℕ) → number < 2 ^ 64 → 57 < get_or name 0 0 → same_text (decimal number) name ≡ false
is_no_name number name small letter = elim (cases_Bool (same_text (decimal number) name)) [
  | inl same ↦
      let filled = decimal_nonempty number small in
      let other = not_in_digits own (decimal number) (get_or name 0 0) (digits_decimal own number small) (λ range. omega (arith, range, letter)) 0 (omega (arith, filled)) in
      absurd (other (ap (λ text. get_or text 0 0) (same_is (decimal number) name same)))
  | inr other ↦ other
]

pub optional_read : (name : List ℕ) (most : ℕ) (number : Option ℕ) → 57 < get_or name 0 0 → most < 2 ^ 64 → IfSome number (λ n. n ≤ most)
    → optional_of name most (optional_word name number) ≡ Some number
optional_read name most None letter bound within =
    cond-true (same_text name name) (Some None) (option_map Some (number_to most name)) (same_itself name)
optional_read name most (Some number) letter bound within =
    let small : number < 2 ^ 64 = omega (arith, bound, within) in
    cond-false (same_text (decimal number) name) (Some None) (option_map Some (number_to most (decimal number))) (is_no_name number name small letter)
    ∙ ap (option_map Some) (number_read number most small within)

-- ---- names

pub state_read : (state : State) → state_of_word (state_name state) ≡ Some state
state_read WaitPrm = refl
state_read WaitCfg = refl
state_read DataExch = refl

pub bit_read : (bit : Bool) → bit_of_word (bit_word bit) ≡ Some bit
bit_read true = refl
bit_read false = refl

pub halted_read : (halted : Bool) → halted_of_word (halted_word halted) ≡ Some halted
halted_read true = refl
halted_read false = refl

-- ---- flags

pub letter_read : (flag : Bool) (letter : ℕ) → (letter == 45) ≡ false → is_letter (cond flag letter 45) ≡ flag
letter_read true letter other = ap not other
letter_read false letter other = refl
