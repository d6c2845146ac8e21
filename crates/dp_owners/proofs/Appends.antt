-- The lists after an append.
use Rattle.std.proofs.Common.{◌≡◌, ◌≢◌, ℕ, ◌<◌, List, [], ◌∷◌, ◌++◌, length, get_or, set, Option, Some, None, sym, ap, subst, ◌∙◌, arith, get_or-set_same, get_or-set_other, length-set}
use Rattle.std.specs.Prelude.{slice_get, IfSome}
use Rattle.dp_owners.specs.declared.owners.TheConstants.{MOST_MASTERS}
use Rattle.dp_owners.specs.declared.links.Links.{Links}
use Rattle.dp_owners.specs.declared.owners.Owners.{Owners}
use Rattle.dp_owners.specs.Positions.{first_or, last_or, NotIn, IsDistinct}
use Rattle.dp_owners.specs.Chain.{IsChain}
use Rattle.dp_owners.specs.Threaded.{IsFree, AreAt, IsThreaded, appended}
use Rattle.dp_owners.specs.Mending.{changed_at, changed_where, with_end, with_next}
use Rattle.dp_owners.proofs.Mending.{get_changed, get_unchanged, length-changed_where}
use Rattle.dp_owners.proofs.Positions.{IsNot, all_front, all_back, distinct_push, append_nil, last_is_other, last_join, Misses}
use Rattle.dp_owners.proofs.Homes.{moved, home_kept, home_push, last_away}
use Rattle.dp_owners.proofs.Chains.{chain_kept, relink_last, chain_join, last_below}
use Rattle.dp_owners.proofs.Changes.{each, each_before, at_changed, length-with_end, end_other, head_here, among}

-- what the code writes, if `last` was the last of the list
abbrev pub pushed : Option ℕ → Links → Links
pushed last own = record { prev = last; next = None }

pub append_links : List Links → Option ℕ → ℕ → List Links
append_links links last at = changed_where (with_next (Some at)) last (changed_at (pushed last) at links)

append_owners : Owners → ℕ → Option ℕ → ℕ → Owners
append_owners owners m last at = record { heads = with_end last m (Some at) owners.heads; tails = set owners.tails m (Some at) }

get_kept : (links : List Links) (last : Option ℕ) (at x : ℕ) → last ≢ Some x → at ≢ x → slice_get (append_links links last at) x ≡ slice_get links x
unfolding append_links
get_kept links last at x one two =
    get_unchanged (with_next (Some at)) last (changed_at (pushed last) at links) x one ∙ get_unchanged (pushed last) (Some at) links x (λ e. two cc)

length-append_links : (links : List Links) (last : Option ℕ) (at : ℕ) → length (append_links links last at) ≡ length links
unfolding append_links
length-append_links links last at = length-changed_where (with_next (Some at)) last (changed_at (pushed last) at links) ∙ length-changed_where (pushed last) (Some at) links

chain_here : (links : List Links) (xs : List ℕ) (at : ℕ) (own : Links) → slice_get links at ≡ Some own → NotIn at xs → IsDistinct xs → IsChain links None xs None
    → IsChain (append_links links (last_or None xs) at) None (xs ++ at ∷ []) None
unfolding append_links
chain_here links xs at own here out distinct chain =
    chain_join (append_links links (last_or None xs) at) None xs (at ∷ []) None
    (relink_last (changed_at (pushed (last_or None xs)) at links) None xs None (Some at) distinct (chain_kept (pushed (last_or None xs)) (Some at) links None xs None out chain)) (
      get_unchanged (with_next (Some at)) (last_or None xs) (changed_at (pushed (last_or None xs)) at links) at (last_is_other at None xs (λ e. absurd cc) out)
          ∙ get_changed (pushed (last_or None xs)) links at own here,
      tt,
    )

chain_other : (links : List Links) (last : Option ℕ) (at : ℕ) (ys : List ℕ) → NotIn at ys → Misses last ys → IsChain links None ys None → IsChain (append_links links last at) None ys None
unfolding append_links
chain_other links last at ys out missed chain =
    chain_kept (with_next (Some at)) last (changed_at (pushed last) at links) None ys None missed (chain_kept (pushed last) (Some at) links None ys None out chain)

free_out : (lists : ℕ → List ℕ) (m at x : ℕ) → m < MOST_MASTERS → IsFree x (appended lists m at) → (at ≢ x) × IsFree x lists
free_out lists m at x small free =
    let here = at_changed (NotIn x) lists m (lists m ++ at ∷ []) (free m small) in (
      (all_back (IsNot x) (lists m) (at ∷ []) here).0,
      each_before (NotIn x) lists m (lists m ++ at ∷ []) small (λ out. all_front (IsNot x) (lists m) (at ∷ []) out) free,
    )

append_at : (owners : Owners) (links : List Links) (lists : ℕ → List ℕ) (m at : ℕ) (own : Links) → m < MOST_MASTERS → slice_get links at ≡ Some own → IsFree at lists → IsThreaded owners links lists
    → IsThreaded (append_owners owners m (last_or None (lists m)) at) (append_links links (last_or None (lists m)) at) (appended lists m at)
unfolding append_owners
append_at owners links lists m at own small here free threaded = record {
  ends = (
    length-with_end (last_or None (lists m)) m (Some at) owners.heads ∙ threaded.ends.0,
    length-set owners.tails m (Some at) ∙ threaded.ends.1,
  );
  heads = each (λ n xs. get_or (with_end (last_or None (lists m)) m (Some at) owners.heads) n None ≡ first_or xs None) lists m (lists m ++ at ∷ [])
      (head_here owners.heads m (lists m) [] (at ∷ []) (among m owners.heads small threaded.ends.0) (threaded.heads m small ∙ ap (λ xs. first_or xs None) (sym (append_nil (lists m)))))
      (λ n below other. end_other (last_or None (lists m)) m n (Some at) owners.heads other ∙ threaded.heads n below);
  tails = each (λ n xs. get_or (set owners.tails m (Some at)) n None ≡ last_or None xs) lists m (lists m ++ at ∷ [])
      (get_or-set_same owners.tails m (Some at) None (among m owners.tails small threaded.ends.1) ∙ sym (last_join None (lists m) (at ∷ [])))
      (λ n below other. get_or-set_other owners.tails m n (Some at) None other ∙ threaded.tails n below);
  chains = each (λ n xs. IsChain (append_links links (last_or None (lists m)) at) None xs None) lists m (lists m ++ at ∷ [])
      (chain_here links (lists m) at own here (free m small) (threaded.distinct m small) (threaded.chains m small))
      (λ n below other. chain_other links (last_or None (lists m)) at (lists n) (free n below)
      (last_away threaded.home m n None (lists m) (lists n) (λ e. other (sym e)) (threaded.at_home m small) (threaded.at_home n below) tt) (threaded.chains n below));
  distinct = each (λ n xs. IsDistinct xs) lists m (lists m ++ at ∷ []) (distinct_push (lists m) at (threaded.distinct m small) (free m small)) (λ n below other. threaded.distinct n below);
  home = moved threaded.home at m;
  at_home = each (λ n xs. AreAt (moved threaded.home at m) n xs) lists m (lists m ++ at ∷ [])
      (home_push threaded.home at m (lists m) (threaded.at_home m small) (free m small))
      (λ n below other. home_kept threaded.home at m n (lists n) (threaded.at_home n below) (free n below));
  unlisted = λ x below out.
      let was : (at ≢ x) × IsFree x lists = free_out lists m at x small out in
      get_kept links (last_or None (lists m)) at x (last_is_other x None (lists m) (λ e. absurd cc) (was.1 m small)) was.0
      ∙ threaded.unlisted x (omega (arith, below, length-append_links links (last_or None (lists m)) at)) was.1;
}

pub thread_append : (owners : Owners) (links : List Links) (lists : ℕ → List ℕ) (m at : ℕ) (last : Option ℕ) (own : Links) → m < MOST_MASTERS → slice_get links at ≡ Some own
    → last ≡ get_or owners.tails m None → IsFree at lists → IsThreaded owners links lists
    → IsThreaded (record { heads = with_end last m (Some at) owners.heads; tails = set owners.tails m (Some at) })
    (changed_where (with_next (Some at)) last (changed_at (pushed last) at links)) (appended lists m at)
unfolding append_owners append_links
thread_append owners links lists m at last own small here e free threaded =
    subst (λ o. IsThreaded (append_owners owners m o at) (append_links links o at) (appended lists m at)) (sym (e ∙ threaded.tails m small))
    (append_at owners links lists m at own small here free threaded)

-- the last of a list is a record
pub tail_below : (owners : Owners) (links : List Links) (lists : ℕ → List ℕ) (m : ℕ) → m < MOST_MASTERS → IsThreaded owners links lists → IfSome (get_or owners.tails m None) (λ at. at < length links)
tail_below owners links lists m small threaded =
    subst (λ o. IfSome o (λ at. at < length links)) (sym (threaded.tails m small)) (last_below links None (lists m) None tt (threaded.chains m small))
