use Rattle.std.proofs.Common.{◌≡◌, ◌≢◌, ℕ, List, Option, Some, None, refl, sym, ap, ◌∙◌}
use Rattle.std.specs.Prelude.{slice_get}
use Rattle.dp_owners.specs.declared.links.Links.{Links}
use Rattle.dp_owners.specs.Mending.{changed_at, changed_where, with_next, with_prev}
use Rattle.dp_owners.specs.Positions.{first_or, last_or}
use Rattle.dp_owners.specs.Threaded.{appended, unlinked}
use Rattle.dp_owners.proofs.Mending.{get_there, get_unchanged, length-changed_where}
use Rattle.dp_owners.proofs.Appends.{pushed, thread_append}
use Rattle.dp_owners.proofs.Unlinks.{cleared, links_in, thread_unlink}
use Rattle.dp_owners.proofs.Same.{same_all}
use Rattle.dp_owners.proofs.laws.a_call_touches_neighbours_alone.Goals as goal

-- a change at one place and one at a neighbour, if there is one, leave all other links unchanged
get_twice : (one two : Links → Links) (at : ℕ) (beside : Option ℕ) (links : List Links) (x : ℕ) → at ≢ x → beside ≢ Some x → slice_get (changed_where two beside (changed_at one at links)) x ≡ slice_get links x
get_twice one two at beside links x other apart =
    get_unchanged two beside (changed_at one at links) x apart ∙ get_unchanged one (Some at) links x (λ e. other cc)

pub returns-clause-append : goal.returns-clause-append
returns-clause-append c owners later links after lists m at x small below free threaded two long other apart =
    let there = get_there links at below in
    let one = thread_append owners links lists m at (last_or None (lists m)) there.0 small there.1 (sym (threaded.tails m small)) free threaded in
    let all = same_all _ later _ after (appended lists m at) (appended lists m at) one two
    (length-changed_where (with_next (Some at)) (last_or None (lists m)) (changed_at (pushed (last_or None (lists m))) at links) ∙ length-changed_where (pushed (last_or None (lists m))) (Some at) links ∙ long) (λ n near. refl) in
    ap (λ own. slice_get own x) (sym all.1) ∙ get_twice (pushed (last_or None (lists m))) (with_next (Some at)) at (last_or None (lists m)) links x other apart

pub returns-clause-unlink : goal.returns-clause-unlink
returns-clause-unlink c owners later links after lists m at x before behind small is threaded two long other apart beside =
    let here = links_in links at before behind (lists m) is (threaded.chains m small) in
    let one = thread_unlink owners links lists m at (record { prev = last_or None before; next = first_or behind None }) small (before, behind, is) here threaded in
    let all = same_all _ later _ after (unlinked lists m at) (unlinked lists m at) one two
    (length-changed_where cleared (Some at) (changed_where (with_prev (last_or None before)) (first_or behind None) (changed_where (with_next (first_or behind None)) (last_or None before) links))
    ∙ length-changed_where (with_prev (last_or None before)) (first_or behind None) (changed_where (with_next (first_or behind None)) (last_or None before) links)
    ∙ length-changed_where (with_next (first_or behind None)) (last_or None before) links ∙ long) (λ n near. refl) in
    ap (λ links_then. slice_get links_then x) (sym all.1)
    ∙ get_unchanged cleared (Some at) (changed_where (with_prev (last_or None before)) (first_or behind None) (changed_where (with_next (first_or behind None)) (last_or None before) links)) x (λ e. other cc)
    ∙ get_unchanged (with_prev (last_or None before)) (first_or behind None) (changed_where (with_next (first_or behind None)) (last_or None before) links) x beside
    ∙ get_unchanged (with_next (first_or behind None)) (last_or None before) links x apart
