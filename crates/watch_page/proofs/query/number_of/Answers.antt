use Rattle.std.proofs.Common.{◌≡◌, ◌≢◌, ℕ, ◌^◌, ◌<◌, Bool, true, false, not, ◌&&◌, cond, eqb, ltb, List, length, get_or, Some, None, Ok, Err, refl, ◌∙◌, lit<, arith}
use Rattle.std.specs.Prelude.{Result}
use Rattle.std.specs.Result.{OkIff, result_ok}
use Rattle.std.specs.Str.{all_ascii_digits}
use Rattle.std.specs.Str.Parse.{digits_value, ParsesUnsigned}
use Rattle.std.proofs.lemmas.Bool.{both_ways}
use Rattle.std.proofs.lemmas.Bool.Decides.{nat_tests}
use Rattle.std.proofs.lemmas.Str.Parse.{IsNumeralModel, numerals_by_value, tells_all_ascii_digits, parse_plain}
use Rattle.std.proofs.lemmas.Str.Pattern.{starts_char}
use Rattle.watch_page.specs.Queries.{number_of}
use Rattle.watch_page.proofs.query.number_of.Goals as goal

digits_of_std : IsNumeralModel (λ word. all_ascii_digits word ≡ true) (digits_value 10)
digits_of_std = numerals_by_value (λ word. all_ascii_digits word ≡ true) tells_all_ascii_digits

by_tests : {E : Type 0} (digits : Bool) (count value : ℕ) (r : Result ℕ E) → OkIff r ((digits ≡ true) × (0 < count) × (value < 2 ^ 64)) value
    → result_ok r ≡ cond (digits && not (eqb count 0) && ltb value (2 ^ 64)) (Some value) None
by_tests true count value (Ok number) h = grind (arith, nat_tests)
by_tests false count value (Ok number) h = absurd cc
by_tests true count value (Err fault) h = grind (arith, nat_tests)
by_tests false count value (Err fault) h = refl

-- a word that does not begin with a sign is read as its digits
parsed : {E : Type 0} (word : List ℕ) (r : Result ℕ E) → ParsesUnsigned 64 10 word r → get_or word 0 0 ≢ 43 → result_ok r ≡ number_of word
parsed word r parses plain =
    by_tests (all_ascii_digits word) (length word) (digits_value 10 word) r (parse_plain digits_of_std 64 word r parses plain)

pub returns : goal.returns
returns c =
    let signed = starts_char 43 c.args.digits.now c.starts_with.result c.starts_with.ensures.cases (lit< tt) (lit< tt) in
    c.ok.ensures.value ∙ parsed c.args.digits.now _ c.parse.ensures.value.0 (λ plus. both_ways _ c.if-starts_with.false (signed.1 plus))
