-- The lists after an unlink. The master's list is xs, then the record, then ys.
use Rattle.std.proofs.Common.{◌≡◌, ◌≢◌, ℕ, ◌<◌, Bool, true, false, eqb, List, ◌∷◌, ◌++◌, length, get_or, Some, None, refl, sym, ap, subst, ◌∙◌, arith}
use Rattle.std.specs.Prelude.{slice_get, IfSome}
use Rattle.std.proofs.lemmas.Bool.{eqb-true, eqb-false}
use Rattle.dp_owners.specs.declared.owners.TheConstants.{MOST_MASTERS}
use Rattle.dp_owners.specs.declared.links.Links.{Links}
use Rattle.dp_owners.specs.declared.owners.Owners.{Owners}
use Rattle.dp_owners.specs.Positions.{first_or, last_or, without, NotIn, IsIn, IsDistinct}
use Rattle.dp_owners.specs.Chain.{no_links, IsChain}
use Rattle.dp_owners.specs.Threaded.{IsFree, AreAt, IsThreaded, unlinked}
use Rattle.dp_owners.specs.Mending.{changed_at, changed_where, with_end, with_next, with_prev}
use Rattle.dp_owners.proofs.Mending.{get_changed, get_unchanged, get_there, length-changed_where}
use Rattle.dp_owners.proofs.Positions.{IsNot, all_front, all_back, all_less, all_more, distinct_front, distinct_back, distinct_less, out_of_rest, without_one, last_is_other, first_is_other, last_misses, first_misses}
use Rattle.dp_owners.proofs.Homes.{IsAt, away, first_away, last_away}
use Rattle.dp_owners.proofs.Chains.{chain_kept, relink_last, relink_first, chain_join, chain_front, chain_back, first_below, last_below}
use Rattle.dp_owners.proofs.Changes.{changed, each, each_before, at_changed, length-with_end, end_other, head_here, tail_here, among}

-- what the code writes, if `own` are the links of the record
abbrev pub cleared : Links → Links
cleared own = no_links

abbrev pub mended_owners : Owners → ℕ → Links → Owners
mended_owners owners m own = record { heads = with_end own.prev m own.next owners.heads; tails = with_end own.next m own.prev owners.tails }

abbrev pub mended_links : List Links → ℕ → Links → List Links
mended_links links at own = changed_at cleared at (changed_where (with_prev own.prev) own.next (changed_where (with_next own.next) own.prev links))

mended : List Links → List ℕ → List ℕ → List Links
mended links xs ys = changed_where (with_prev (last_or None xs)) (first_or ys None) (changed_where (with_next (first_or ys None)) (last_or None xs) links)

length-mended : (links : List Links) (xs ys : List ℕ) → length (mended links xs ys) ≡ length links
unfolding mended
length-mended links xs ys =
    length-changed_where (with_prev (last_or None xs)) (first_or ys None) (changed_where (with_next (first_or ys None)) (last_or None xs) links)
    ∙ length-changed_where (with_next (first_or ys None)) (last_or None xs) links

get_kept : (links : List Links) (xs ys : List ℕ) (x : ℕ) → NotIn x (xs ++ ys) → slice_get (mended links xs ys) x ≡ slice_get links x
unfolding mended
get_kept links xs ys x out =
    get_unchanged (with_prev (last_or None xs)) (first_or ys None) (changed_where (with_next (first_or ys None)) (last_or None xs) links) x (first_is_other x ys (all_back (IsNot x) xs ys out))
    ∙ get_unchanged (with_next (first_or ys None)) (last_or None xs) links x (last_is_other x None xs (λ e. absurd cc) (all_front (IsNot x) xs ys out))

chain_here : (links : List Links) (xs : List ℕ) (at : ℕ) (ys : List ℕ) → IsDistinct (xs ++ at ∷ ys) → IsChain links None (xs ++ at ∷ ys) None → IsChain (mended links xs ys) None (xs ++ ys) None
unfolding mended
chain_here links xs at ys distinct chain =
    let less : IsDistinct (xs ++ ys) = distinct_less xs at ys distinct in
    let front : IsChain (changed_where (with_next (first_or ys None)) (last_or None xs) links) None xs (first_or ys None) =
    relink_last links None xs (Some at) (first_or ys None) (distinct_front xs ys less) (chain_front links None xs (at ∷ ys) None chain) in
    let back : IsChain (changed_where (with_next (first_or ys None)) (last_or None xs) links) (Some at) ys None =
    chain_kept (with_next (first_or ys None)) (last_or None xs) links (Some at) ys None (last_misses None xs ys less tt) (chain_back links None xs (at ∷ ys) None chain).1 in
    chain_join (mended links xs ys) None xs ys None
    (chain_kept (with_prev (last_or None xs)) (first_or ys None) (changed_where (with_next (first_or ys None)) (last_or None xs) links) None xs (first_or ys None) (first_misses xs ys less) front)
    (relink_first (changed_where (with_next (first_or ys None)) (last_or None xs) links) (Some at) (last_or None xs) ys None (distinct_back xs ys less) back)

chain_other : (links : List Links) (home : ℕ → ℕ) (m n : ℕ) (xs ys zs : List ℕ) → m ≢ n → AreAt home m (xs ++ ys) → AreAt home n zs → IsChain links None zs None → IsChain (mended links xs ys) None zs None
unfolding mended
chain_other links home m n xs ys zs apart one two chain =
    chain_kept (with_prev (last_or None xs)) (first_or ys None) (changed_where (with_next (first_or ys None)) (last_or None xs) links) None zs None
    (first_away home m n ys zs apart (all_back (IsAt home m) xs ys one) two)
    (chain_kept (with_next (first_or ys None)) (last_or None xs) links None zs None (last_away home m n None xs zs apart (all_front (IsAt home m) xs ys one) two tt) chain)

-- a record in no list after the unlink is the unlinked one, or was in no list before
unlisted_by : (owners : Owners) (links : List Links) (lists : ℕ → List ℕ) (m at : ℕ) (xs ys : List ℕ) (x : ℕ) (b : Bool) → eqb x at ≡ b → m < MOST_MASTERS → lists m ≡ xs ++ at ∷ ys → NotIn x (xs ++ ys)
    → IsThreaded owners links lists → x < length links → IsFree x (changed lists m (xs ++ ys)) → slice_get (changed_at cleared at (mended links xs ys)) x ≡ Some no_links
unlisted_by owners links lists m at xs ys x true e small is out threaded below free =
    let there = get_there (mended links xs ys) at (omega (arith, eqb-true x at e, length-mended links xs ys)) in
    ap (slice_get (changed_at cleared at (mended links xs ys))) (eqb-true x at e) ∙ get_changed cleared (mended links xs ys) at there.0 there.1
unlisted_by owners links lists m at xs ys x false e small is out threaded below free =
    let other : x ≢ at = eqb-false x at e in
    get_unchanged cleared (Some at) (mended links xs ys) x (λ same. other cc) ∙ get_kept links xs ys x out
    ∙ threaded.unlisted x below (each_before (NotIn x) lists m (xs ++ ys) small (λ rest. subst (NotIn x) (sym is) (all_more (IsNot x) xs at ys (λ same. other (sym same)) rest)) free)

unlink_at : (owners : Owners) (links : List Links) (lists : ℕ → List ℕ) (m at : ℕ) (xs ys : List ℕ) → m < MOST_MASTERS → lists m ≡ xs ++ at ∷ ys → IsThreaded owners links lists
    → IsThreaded (record { heads = with_end (last_or None xs) m (first_or ys None) owners.heads; tails = with_end (first_or ys None) m (last_or None xs) owners.tails })
    (changed_at cleared at (mended links xs ys)) (changed lists m (xs ++ ys))
unlink_at owners links lists m at xs ys small is threaded =
    let distinct : IsDistinct (xs ++ at ∷ ys) = subst IsDistinct is (threaded.distinct m small) in
    let home : AreAt threaded.home m (xs ++ at ∷ ys) = subst (AreAt threaded.home m) is (threaded.at_home m small) in
    let here : threaded.home at ≡ m = (all_back (IsAt threaded.home m) xs (at ∷ ys) home).0 in
    record {
      ends = (
        length-with_end (last_or None xs) m (first_or ys None) owners.heads ∙ threaded.ends.0,
        length-with_end (first_or ys None) m (last_or None xs) owners.tails ∙ threaded.ends.1,
      );
      heads = each (λ n zs. get_or (with_end (last_or None xs) m (first_or ys None) owners.heads) n None ≡ first_or zs None) lists m (xs ++ ys)
          (head_here owners.heads m xs (at ∷ ys) ys (among m owners.heads small threaded.ends.0) (threaded.heads m small ∙ ap (λ list. first_or list None) is))
          (λ n below other. end_other (last_or None xs) m n (first_or ys None) owners.heads other ∙ threaded.heads n below);
      tails = each (λ n zs. get_or (with_end (first_or ys None) m (last_or None xs) owners.tails) n None ≡ last_or None zs) lists m (xs ++ ys)
          (tail_here owners.tails m xs at ys (among m owners.tails small threaded.ends.1) (threaded.tails m small ∙ ap (last_or None) is))
          (λ n below other. end_other (first_or ys None) m n (last_or None xs) owners.tails other ∙ threaded.tails n below);
      chains = each (λ n zs. IsChain (changed_at cleared at (mended links xs ys)) None zs None) lists m (xs ++ ys)
          (chain_kept cleared (Some at) (mended links xs ys) None (xs ++ ys) None (out_of_rest xs at ys distinct)
          (chain_here links xs at ys distinct (subst (λ list. IsChain links None list None) is (threaded.chains m small))))
          (λ n below other. chain_kept cleared (Some at) (mended links xs ys) None (lists n) None (away threaded.home m n at (lists n) (λ e. other (sym e)) here (threaded.at_home n below))
          (chain_other links threaded.home m n xs ys (lists n) (λ e. other (sym e)) (all_less (IsAt threaded.home m) xs at ys home) (threaded.at_home n below) (threaded.chains n below)));
      distinct = each (λ n zs. IsDistinct zs) lists m (xs ++ ys) (distinct_less xs at ys distinct) (λ n below other. threaded.distinct n below);
      home = threaded.home;
      at_home = each (λ n zs. AreAt threaded.home n zs) lists m (xs ++ ys) (all_less (IsAt threaded.home m) xs at ys home) (λ n below other. threaded.at_home n below);
      unlisted = λ x below free. unlisted_by owners links lists m at xs ys x (eqb x at) refl small is (at_changed (NotIn x) lists m (xs ++ ys) (free m small)) threaded
          (omega (arith, below, length-changed_where cleared (Some at) (mended links xs ys), length-mended links xs ys)) free;
    }

-- the links of a record in the list
pub links_in : (links : List Links) (at : ℕ) (xs ys list : List ℕ) → list ≡ xs ++ at ∷ ys → IsChain links None list None
    → slice_get links at ≡ Some (record { prev = last_or None xs; next = first_or ys None })
links_in links at xs ys list is chain = (chain_back links None xs (at ∷ ys) None (subst (λ l. IsChain links None l None) is chain)).0

pub thread_unlink : (owners : Owners) (links : List Links) (lists : ℕ → List ℕ) (m at : ℕ) (own : Links) → m < MOST_MASTERS → IsIn at (lists m) → slice_get links at ≡ Some own → IsThreaded owners links lists
    → IsThreaded (mended_owners owners m own) (mended_links links at own) (unlinked lists m at)
unfolding mended
thread_unlink owners links lists m at own small there here threaded =
    let neighbours = links_in links at there.0 there.1 (lists m) there.2 (threaded.chains m small) in
    let same : record { prev = last_or None there.0; next = first_or there.1 None } ≡ own = cc in
    let out : NotIn at (there.0 ++ there.1) = out_of_rest there.0 at there.1 (subst IsDistinct there.2 (threaded.distinct m small)) in
    let left : there.0 ++ there.1 ≡ without at (lists m) = sym (ap (without at) there.2 ∙ without_one there.0 at there.1 out) in
    subst (λ new. IsThreaded (mended_owners owners m own) (mended_links links at own) (changed lists m new)) left
    (subst (λ k. IsThreaded (mended_owners owners m k) (mended_links links at k) (changed lists m (there.0 ++ there.1))) same
    (unlink_at owners links lists m at there.0 there.1 small there.2 threaded))

-- if a record has a neighbour, the neighbour is a record
pub neighbours_below : (owners : Owners) (links : List Links) (lists : ℕ → List ℕ) (m at : ℕ) (own : Links) → m < MOST_MASTERS → IsIn at (lists m) → slice_get links at ≡ Some own → IsThreaded owners links lists
    → IfSome own.prev (λ x. x < length links) × IfSome own.next (λ x. x < length links)
neighbours_below owners links lists m at own small there here threaded =
    let neighbours = links_in links at there.0 there.1 (lists m) there.2 (threaded.chains m small) in
    let same : record { prev = last_or None there.0; next = first_or there.1 None } ≡ own = cc in
    let chain : IsChain links None (there.0 ++ at ∷ there.1) None = subst (λ list. IsChain links None list None) there.2 (threaded.chains m small) in
    subst (λ k. IfSome k.prev (λ x. x < length links) × IfSome k.next (λ x. x < length links)) same (
      last_below links None there.0 (Some at) tt (chain_front links None there.0 (at ∷ there.1) None chain),
      first_below links (Some at) there.1 (chain_back links None there.0 (at ∷ there.1) None chain).1,
    )
