-- The properties of an accepted rack.
use Rattle.std.proofs.Common.{◌≡◌, ℕ, ℤ, pos, negsuc, ◌+◌, ◌≤◌, Bool, true, false, ◌&&◌, cond, leb, List, [], ◌∷◌, length, Option, Some, None, Result, Ok, Err, refl, sym, ap, subst, suc, codes, ◌∙◌, arith}
use Rattle.std.proofs.lemmas.Bool.Decides.{nat_tests}
use Rattle.std.specs.List.{AllByRecursion}
use Rattle.std.specs.Option.{ok_or, option_map_or}
use Rattle.toml.specs.Data.{Data, Members, as_integer, get_member}
use Rattle.dp_line.specs.declared.fault.OpenFault.{OpenFault}
use Rattle.dp_line.specs.World.{opening_fault, has_twice}
use Rattle.rack_file.specs.declared.fault.RackFault.{RackFault}
use Rattle.rack_file.specs.declared.misread.Place.{Place}
use Rattle.rack_file.specs.declared.misread.Place.TheVariants.{Rack}
use Rattle.rack_file.specs.declared.misread.Cause.{Cause}
use Rattle.rack_file.specs.declared.misread.Cause.TheVariants.{NoNumber, Count}
use Rattle.rack_file.specs.declared.misread.Misread.{Misread}
use Rattle.rack_file.specs.declared.misread.Misread.TheVariants.{TwiceLine}
use Rattle.rack_file.specs.Rack.{LineDescription, RackDescription}
use Rattle.rack_file.specs.TomlKeys.{◌>>=◌, at_key, number_from, counted, array_of, only, required, optional, each_from}
use Rattle.rack_file.specs.RackFile.{line_at, lines_of, numbers, numbers_differ, opened, all_open, rack_keys, rack_of, with_fault, rack_of_document}
use Rattle.rack_file.proofs.Each.{done_parts, ok_parts}

pub record IsAccepted (rack : RackDescription) : Type 0 where
  pub workers : (1 ≤ rack.workers) × (rack.workers ≤ 32)
  pub lines : (1 ≤ length rack.lines) × (length rack.lines ≤ 8)
  pub differ : has_twice (numbers rack.lines) ≡ false
  pub open_all : AllByRecursion (λ line. opening_fault line.line ≡ None) rack.lines

length-each_from : {A E : Type 0} (read : ℕ → Data → Result A E) (position : ℕ) (values : List Data) (done : List A) → each_from read position values ≡ Ok done → length done ≡ length values
unfolding each_from
length-each_from {E = E} read position [] done e = ap length (ok_parts E done [] (sym e))
length-each_from {E = E} read position (value ∷ values) done e =
    let (first, here, more) = done_parts (read position value) (λ first. each_from read (position + 1) values >>= λ others. Ok (first ∷ others)) done e in
    let (others, there, whole) = done_parts (each_from read (position + 1) values) (λ others. Ok (first ∷ others)) done more in
    ap length (ok_parts E done (first ∷ others) (sym whole)) ∙ ap (λ (n : ℕ). suc n) (length-each_from read (position + 1) values others there)

-- what was read at a key, if a test holds
guarded : {A : Type 0} (test : Bool) (place : Place) (key : List ℕ) (cause : Cause) (read x : A) → at_key place key (cond test (Ok read) (Err cause)) ≡ Ok x → (test ≡ true) × (read ≡ x)
guarded true place key cause read x e = (refl, ok_parts Misread read x e)
guarded false place key cause read x e = absurd cc

-- the number of values is in the range
pub counted_count : (least most : ℕ) (place : Place) (key : List ℕ) (all values : List Data) → at_key place key (counted least most all) ≡ Ok values → (least ≤ length values) × (length values ≤ most)
counted_count least most place key all values e =
    let (within, same) = guarded (leb least (length all) && leb (length all) most) place key (Count least most) all values e in
    subst (λ (v : List Data). (least ≤ length v) × (length v ≤ most)) same (grind (arith, nat_tests), grind (arith, nat_tests))

few : (file : Members) (lines : List LineDescription) → lines_of file ≡ Ok lines → (1 ≤ length lines) × (length lines ≤ 8)
unfolding lines_of
few file lines e =
    let (all, one, after_all) = done_parts (required array_of Rack (codes "line") file) (λ all. at_key Rack (codes "line") (counted 1 8 all) >>= λ values. each_from line_at 1 values) lines e in
    let (values, two, after_values) = done_parts (at_key Rack (codes "line") (counted 1 8 all)) (λ values. each_from line_at 1 values) lines after_all in
    let count = counted_count 1 8 Rack (codes "line") all values two in
    let same = length-each_from line_at 1 values lines after_values in
    (omega (arith, count.0), omega (arith, count.1))

abbrev IsFrom : ℕ → ℕ → ℕ → Type 0
IsFrom least most n = (least ≤ n) × (n ≤ most)

number_within : (least most : ℕ) (place : Place) (key : List ℕ) (read : Result ℤ Cause) (n : ℕ)
    → at_key place key (read >>= λ number. elim number [ pos m ↦ cond (leb least m && leb m most) (Ok m) (Err (NoNumber least most)) | negsuc m ↦ Err (NoNumber least most) ]) ≡ Ok n
    → IsFrom least most n
number_within least most place key (Ok (pos m)) n e =
    let (within, here) = guarded (leb least m && leb m most) place key (NoNumber least most) m n e in
    subst (IsFrom least most) here (grind (arith, nat_tests), grind (arith, nat_tests))
number_within least most place key (Ok (negsuc m)) n e = absurd cc
number_within least most place key (Err cause) n e = absurd cc

workers_reported : (key : List ℕ) (value : Option Data) (workers : ℕ) → option_map_or (λ value. at_key Rack key (number_from 1 32 value)) value (Ok 4) ≡ Ok workers → IsFrom 1 32 workers
unfolding number_from
workers_reported key None workers e = subst (IsFrom 1 32) (ok_parts Misread 4 workers e) (omega arith, omega arith)
workers_reported key (Some value) workers e = number_within 1 32 Rack key (ok_or (as_integer value) (NoNumber 1 32)) workers e

opened_none : (position : ℕ) (fault : Option OpenFault) → opened position fault ≡ Ok tt → fault ≡ None
opened_none position None e = refl
opened_none position (Some fault) e = absurd cc

all_opened : (position : ℕ) (lines : List LineDescription) → all_open position lines ≡ Ok tt → AllByRecursion (λ line. opening_fault line.line ≡ None) lines
unfolding all_open
all_opened position [] e = tt
all_opened position (line ∷ lines) e =
    let (one, here, more) = done_parts (opened position (opening_fault line.line)) (λ _. all_open (position + 1) lines) tt e in
    (opened_none position (opening_fault line.line) here, all_opened (position + 1) lines more)

abbrev reported_twice : Bool → Result (Unit {0}) Misread
reported_twice twice = cond twice (Err TwiceLine) (Ok tt)

differing : (twice : Bool) (unit : Unit {0}) → reported_twice twice ≡ Ok unit → twice ≡ false
differing true unit e = absurd cc
differing false unit e = refl

of_file : (file : Members) (rack : RackDescription) → rack_of file ≡ Ok rack → IsAccepted rack
unfolding rack_of optional
of_file file rack e =
    let last : ℕ → List LineDescription → Unit {0} → Result RackDescription Misread = λ workers lines _. Ok (record { workers = workers; lines = lines }) in
    let (one, keys, after_keys) = done_parts (only Rack rack_keys file) (λ _. optional 4 (number_from 1 32) Rack (codes "workers") file >>= λ workers. lines_of file >>= λ lines. numbers_differ lines >>= λ _. all_open 1 lines >>= last workers lines) rack e in
    let (workers, reported_workers, after_workers) = done_parts (optional 4 (number_from 1 32) Rack (codes "workers") file) (λ workers. lines_of file >>= λ lines. numbers_differ lines >>= λ _. all_open 1 lines >>= last workers lines) rack after_keys in
    let (lines, read, after_read) = done_parts (lines_of file) (λ lines. numbers_differ lines >>= λ _. all_open 1 lines >>= last workers lines) rack after_workers in
    let (two, differ, after_differ) = done_parts (numbers_differ lines) (λ _. all_open 1 lines >>= last workers lines) rack after_read in
    let (three, open_all, after_open) = done_parts (all_open 1 lines) (last workers lines) rack after_differ in
    subst IsAccepted {x = record { workers = workers; lines = lines }} (ok_parts Misread (record { workers = workers; lines = lines }) rack after_open) (record {
      workers = workers_reported (codes "workers") (get_member (codes "workers") file) workers reported_workers;
      lines = few file lines read;
      differ = differing (has_twice (numbers lines)) two differ;
      open_all = all_opened 1 lines open_all;
    })

accepted_file : (read : Result RackDescription Misread) (rack : RackDescription) → with_fault read ≡ Ok rack → read ≡ Ok rack
accepted_file (Ok one) rack e = rw (ok_parts RackFault one rack e)
accepted_file (Err misread) rack e = absurd cc

pub of_document : (document : Option Members) (rack : RackDescription) → rack_of_document document ≡ Ok rack → IsAccepted rack
of_document None rack e = absurd cc
of_document (Some file) rack e = of_file file rack (accepted_file (rack_of file) rack e)
