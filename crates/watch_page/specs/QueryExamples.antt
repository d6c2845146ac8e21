-- helper
-- Queries, and what they ask for in run 7.
use Rattle.std.specs.Prelude.{◌≡◌, codes, Some, None, refl}
use Rattle.watch_page.specs.Queries.{entries_after}

pub this_run : entries_after (Some (codes "run=7&after=12")) 7 ≡ 12
this_run = refl

pub another_run : entries_after (Some (codes "run=8&after=12")) 7 ≡ 0
another_run = refl

pub no_query : entries_after None 7 ≡ 0
no_query = refl

pub empty_query : entries_after (Some (codes "")) 7 ≡ 0
empty_query = refl

pub leading_zeros : entries_after (Some (codes "run=007&after=0012")) 7 ≡ 12
leading_zeros = refl

pub greatest_numbers : entries_after (Some (codes "run=18446744073709551615&after=18446744073709551615")) 18446744073709551615 ≡ 18446744073709551615
greatest_numbers = refl

pub number_too_large : entries_after (Some (codes "run=7&after=18446744073709551616")) 7 ≡ 0
number_too_large = refl

pub no_digits : entries_after (Some (codes "run=7&after=")) 7 ≡ 0
no_digits = refl

pub no_digits_of_the_run : entries_after (Some (codes "run=&after=12")) 0 ≡ 0
no_digits_of_the_run = refl

pub sign : entries_after (Some (codes "run=7&after=+12")) 7 ≡ 0
sign = refl

pub sign_of_the_run : entries_after (Some (codes "run=+7&after=12")) 7 ≡ 0
sign_of_the_run = refl

pub run_only : entries_after (Some (codes "run=7")) 7 ≡ 0
run_only = refl

pub other_order : entries_after (Some (codes "after=12&run=7")) 7 ≡ 0
other_order = refl

pub third_field : entries_after (Some (codes "run=7&after=12&run=7")) 7 ≡ 0
third_field = refl

pub another_name : entries_after (Some (codes "Run=7&after=12")) 7 ≡ 0
another_name = refl

pub value_with_an_equals_sign : entries_after (Some (codes "run=7&after=12=12")) 7 ≡ 0
value_with_an_equals_sign = refl
