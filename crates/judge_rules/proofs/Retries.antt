-- Retries in a row are counted.
use Rattle.std.proofs.Common.{◌≡◌, ℕ, ◌+◌, ◌<◌, Bool, true, false, not, List, [], ◌∷◌, Option, Some, None, ap, refl, sym, arith, ◌∙◌}
use Rattle.std.specs.Prelude.{◌==◌, ◌&&◌, ◌||◌, cond, min, if◌then◌else◌}
use Rattle.std.specs.List.{fold}
use Rattle.std.proofs.lemmas.List.Sums.{sum_by-cons}
use Rattle.std.proofs.lemmas.Bool.{and_parts, eq-eqb}
use Rattle.judge_rules.specs.declared.bus.Bus.{Bus}
use Rattle.judge_rules.specs.declared.entry.Entry.{Entry}
use Rattle.judge_rules.specs.declared.entry.Entry.TheVariants as entries
use Rattle.judge_rules.specs.declared.entry.Request.{Request}
use Rattle.judge_rules.specs.declared.station.Last.{Last}
use Rattle.judge_rules.specs.BusFacts.{bus_after, bus_after_request, bus_after_token, has_fcv, is_retry}
use Rattle.judge_rules.specs.BusWords.{are_retries, entry_count, is_retry_of, is_token, last_request}
use Rattle.judge_rules.specs.Entries.{is_srd}
use Rattle.judge_rules.specs.Stations.{last_of}

-- the last entry was this SRD, after this number of retries, of which at most 255 are counted
pub record Row (bus : Bus) (before : Request) (count : ℕ) : Type 0 where
  pub last : bus.last ≡ Some (last_of before)
  pub retries : bus.retries ≡ min count 255

first_of : (a b c d : Bool) → (a && b && c && d) ≡ true → a ≡ true
first_of true b c d is = refl
first_of false b c d is = absurd cc

pub stored : (bus : Bus) (r : Request) → is_srd r ≡ true → (bus_after_request bus r).last ≡ Some (last_of r)
stored bus r is = ap (λ (b : Bool). if b then Some (last_of r) else None) is

one_more : (n : ℕ) → min (min n 255 + 1) 255 ≡ min (n + 1) 255
one_more n = omega arith

step : (bus : Bus) (before r : Request) (count : ℕ) → Row bus before count → is_retry_of before r ≡ true → Row (bus_after_request bus r) r (count + 1)
step bus before r count row is =
    let retry : is_retry bus.last r ≡ true = ap (λ (l : Option Last). is_retry l r) row.last ∙ is in
    record {
      last = stored bus r (first_of (is_srd r) (not (last_of before).answered) (r.fcv || before.time == r.time) _ is);
      retries =
          ap (λ (b : Bool). if b then min (bus.retries + 1) 255 else 0) retry
          ∙ ap (λ (k : ℕ). min (k + 1) 255) row.retries
          ∙ one_more count;
    }

moved : (bus : Bus) (before : Request) (a b : ℕ) → a ≡ b → Row bus before a → Row bus before b
moved bus before a b same row = record { last = row.last; retries = row.retries ∙ ap (λ (k : ℕ). min k 255) same }

token : (bus : Bus) (before : Request) (count : ℕ) → Row bus before count → before.fcv ≡ true → Row (bus_after_token bus) before count
token bus before count row valid = record {
  last =
      ap (λ (l : Option Last). if has_fcv l then l else None) row.last
      ∙ ap (λ (b : Bool). if b then Some (last_of before) else None) valid;
  retries = row.retries;
}

pub rows : (bus : Bus) (before : Request) (count : ℕ) (rest : List Entry) → Row bus before count → are_retries before rest ≡ true
    → Row (fold bus_after bus rest) (last_request before rest) (count + entry_count rest)
rows bus before count [] row are = moved bus before count (count + 0) (omega arith) row
rows bus before count (entries.Request r ∷ rest) row are =
    let parts = and_parts (is_retry_of before r) (are_retries r rest) are in
    let sum : entry_count (entries.Request r ∷ rest) ≡ 1 + entry_count rest = sum_by-cons (λ entry. cond (not (is_token entry)) 1 0) (entries.Request r) rest in
    moved (fold bus_after (bus_after_request bus r) rest) (last_request r rest) (count + 1 + entry_count rest) (count + entry_count (entries.Request r ∷ rest)) (omega (arith, sum))
    (rows (bus_after_request bus r) r (count + 1) rest (step bus before r count row parts.0) parts.1)
rows bus before count (entries.PassedToken to ∷ rest) row are =
    let parts = and_parts before.fcv (are_retries before rest) are in
    let sum : entry_count (entries.PassedToken to ∷ rest) ≡ 0 + entry_count rest = sum_by-cons (λ entry. cond (not (is_token entry)) 1 0) (entries.PassedToken to) rest in
    moved (fold bus_after (bus_after_token bus) rest) (last_request before rest) (count + entry_count rest) (count + entry_count (entries.PassedToken to ∷ rest)) (omega (arith, sum))
    (rows (bus_after_token bus) before count rest (token bus before count row parts.0) parts.1)
rows bus before count (entries.Stray ∷ rest) row are = absurd cc

-- a request that is reported under no limit is no retry
pub no_retry : (retry : Bool) (count : ℕ) → ((any : ℕ) → (retry && count == any) ≡ false) → retry ≡ false
no_retry true count none = sym (eq-eqb count count refl) ∙ none count
no_retry false count none = refl

pub first_row : (bus : Bus) (first : Request) → is_srd first ≡ true → is_retry bus.last first ≡ false → Row (bus_after_request bus first) first 0
first_row bus first is new = record {
  last = stored bus first is;
  retries = ap (λ (b : Bool). if b then min (bus.retries + 1) 255 else 0) new;
}

pub below_255 : (n limit : ℕ) → limit < 255 → (min n 255 == limit) ≡ (n == limit)
below_255 n limit below = grind arith
