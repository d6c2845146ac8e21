-- Lines with their ports.
use Rattle.std.proofs.Common.{◌≡◌, ℕ, zero, suc, ◌<◌, List, [], ◌∷◌, ◌++◌, length, get_or, Option, Some, None, option_and_then, option_map, Contains, refl, ap, subst, arith}
use Rattle.std.proofs.lemmas.List.Elements.{Contains-append_right}
use Rattle.rack_file.specs.declared.rack.RackLine.{RackLine}
use Rattle.serve_lines.specs.declared.served_line.ServedLine.{ServedLine}
use Rattle.serve_lines.specs.Listening.{ports_of}
use Rattle.serve_lines.specs.ServedLines.{all_served, served_line}

pub some_parts : (r : Option ServedLine) (rest : Option (List ServedLine)) (done : List ServedLine)
    → option_and_then (λ first. option_map (λ others. first ∷ others) rest) r ≡ Some done
    → (first : ServedLine) × (others : List ServedLine) × (r ≡ Some first) × (rest ≡ Some others) × (first ∷ others ≡ done)
some_parts (Some first) (Some others) done e = (first, others, refl, refl, cc)
some_parts (Some first) None done e = absurd cc
some_parts None rest done e = absurd cc

nothing_before : (r : Option (List ServedLine)) → r ≡ option_map (λ others. [] ++ others) r
nothing_before (Some xs) = refl
nothing_before None = refl

one_before : (first : ServedLine) (done : List ServedLine) (r : Option (List ServedLine))
    → option_map (λ others. first ∷ others) (option_map (λ others. done ++ others) r) ≡ option_map (λ others. (first ∷ done) ++ others) r
one_before first done (Some xs) = refl
one_before first done None = refl

served_on : (r : Option ServedLine) (rest more : Option (List ServedLine)) (first : ServedLine) (others : List ServedLine) → r ≡ Some first
    → rest ≡ option_map (λ ls. others ++ ls) more
    → option_and_then (λ f. option_map (λ ls. f ∷ ls) rest) r ≡ option_map (λ ls. (first ∷ others) ++ ls) more
served_on r rest more first others here there = rw (here, there) (one_before first others more)

abbrev pub listed : List ServedLine → Option (List ServedLine)
listed lines = Some lines

pub same_list : (xs ys : List ServedLine) → listed xs ≡ listed ys → xs ≡ ys
same_list xs ys e = cc

all_served-append : (xs ys : List RackLine) (done : List ServedLine) → all_served xs ≡ Some done
    → all_served (xs ++ ys) ≡ option_map (λ others. done ++ others) (all_served ys)
all_served-append [] ys done e =
    subst (λ d. all_served ys ≡ option_map (λ others. d ++ others) (all_served ys)) (same_list [] done e) (nothing_before (all_served ys))
all_served-append (x ∷ xs) ys done e =
    let (first, others, here, rest, whole) = some_parts (served_line x) (all_served xs) done e in
    subst (λ d. all_served (x ∷ (xs ++ ys)) ≡ option_map (λ others. d ++ others) (all_served ys)) whole
    (served_on (served_line x) (all_served (xs ++ ys)) (all_served ys) first others here (all_served-append xs ys others rest))

-- one more line, with its ports
pub one_more_served : (xs : List RackLine) (x : RackLine) (done : List ServedLine) (line : ServedLine) → all_served xs ≡ Some done → served_line x ≡ Some line
    → all_served (xs ++ x ∷ []) ≡ Some (done ++ line ∷ [])
one_more_served xs x done line so_far here = rw (all_served-append xs (x ∷ []) done so_far, here)

-- a line without a port
pub none_served : (xs : List RackLine) (x : RackLine) (ys : List RackLine) (done : List ServedLine) → all_served xs ≡ Some done → served_line x ≡ None
    → all_served (xs ++ x ∷ ys) ≡ None
none_served xs x ys done so_far here = rw (all_served-append xs (x ∷ ys) done so_far, here)

-- ---- ports

-- a line's ports are among those of all
pub ports_at : (lines : List ServedLine) (i : ℕ) (line : ServedLine) → i < length lines → get_or lines i line ≡ line
    → Contains (ports_of lines) line.listen × Contains (ports_of lines) line.operator
ports_at [] i line within is = let no : ⊥ = omega arith in absurd no
ports_at (x ∷ xs) zero line within is = ((0, omega arith, ap (λ (l : ServedLine). l.listen) is), (1, omega arith, ap (λ (l : ServedLine). l.operator) is))
ports_at (x ∷ xs) (suc i) line within is =
    let there = ports_at xs i line (omega arith) is in (
      Contains-append_right (x.listen ∷ x.operator ∷ []) (ports_of xs) line.listen there.0,
      Contains-append_right (x.listen ∷ x.operator ∷ []) (ports_of xs) line.operator there.1,
    )
