-- Sessions in threads, by the journal of their closed line.
use Rattle.std.proofs.Common.{◌≡◌, ℕ, ◌+◌, cond, List, [], ◌∷◌, length, map, Option, Some, None, ap, sym, subst, refl, ◌∙◌, arith}
use Rattle.std.specs.Prelude.{count_by, is_some}
use Rattle.std.proofs.lemmas.List.Sums.{sum_by-cons}
use Rattle.std.specs.List.{AllByRecursion, AllZip, cons_option, filter_map}
use Rattle.std.specs.declared.snapshot.Snapshot.{Snapshot}
use Rattle.atomic_table.specs.Seated.{TableId}
use Rattle.dp_shared.specs.declared.claim_view.ClaimView.{ClaimView}
use Rattle.dp_shared.specs.declared.line_view.PassView.{PassView}
use Rattle.dp_shared.specs.Content.{Content}
use Rattle.dp_shared.specs.LineLock.{FitsPass, IsPassOf}
use Rattle.dp_shared.specs.Numbers.{under}
use Rattle.dp_shared.specs.Passes.{PassIn}
use Rattle.dp_sessions.specs.declared.session_end.SessionEnd.{SessionEnd}
use Rattle.dp_sessions.specs.Sessions.{IsAccepted, Streams}
use Rattle.dp_sessions.specs.Tied.{HasAnsweredMaster}
use Rattle.test_passes.specs.Threads.{IsInJournal, IsServed, passes_in}

-- the law `a_master_has_its_entries` for this journal
abbrev pub Fits : Content → Type 0
Fits closed =
    (masters : List ℕ) (turns : ℕ) (streams : Streams) (before after : ClaimView) (pass : PassView) (end : SessionEnd)
    → IsAccepted masters turns streams before after pass end → FitsPass closed pass
    → HasAnsweredMaster turns streams pass.saw_halt (under pass.number closed.numbers closed.book.entries) end

-- passes of the line
abbrev pub AreOfLine : Content → List PassIn → Type 0
AreOfLine closed = AllByRecursion (λ pass. IsPassOf closed pass.view)

-- ---- one session, whose pass is before the others

one : (closed : Content) (table : TableId) (masters : List ℕ) (turns : ℕ) (streams : Streams) (end : SessionEnd) (note : Option (Snapshot PassIn)) (returned_pass : Option PassIn) (others : List PassIn)
    → Fits closed → IsServed table masters turns streams end note returned_pass → AreOfLine closed (cons_option returned_pass others)
    → IsInJournal closed turns streams end note × AreOfLine closed others
one closed table masters turns streams end (Some note) (Some returned_pass) others law (is, ours, (before, after, accepted)) passes = (
  subst (λ pass. HasAnsweredMaster turns streams pass.view.saw_halt (under pass.view.number closed.numbers closed.book.entries) end) (sym is)
      (law masters turns streams before after returned_pass.view end accepted passes.0.fits),
  passes.1,
)
one closed table masters turns streams end None None others law served passes = (served, passes)
one closed table masters turns streams end (Some note) None others law served passes = absurd served
one closed table masters turns streams end None (Some returned_pass) others law served passes = absurd served

one_ours : (table : TableId) (masters : List ℕ) (turns : ℕ) (streams : Streams) (end : SessionEnd) (note : Option (Snapshot PassIn)) (returned_pass : Option PassIn) (others : List PassIn)
    → IsServed table masters turns streams end note returned_pass → AllByRecursion (λ pass. pass.table ≡ table) others → AllByRecursion (λ pass. pass.table ≡ table) (cons_option returned_pass others)
one_ours table masters turns streams end (Some note) (Some returned_pass) others (is, ours, accepted) rest = (ours, rest)
one_ours table masters turns streams end None None others served rest = rest
one_ours table masters turns streams end (Some note) None others served rest = absurd served
one_ours table masters turns streams end None (Some returned_pass) others served rest = absurd served

one_noted : (table : TableId) (masters : List ℕ) (turns : ℕ) (streams : Streams) (end : SessionEnd) (note : Option (Snapshot PassIn)) (returned_pass : Option PassIn) (notes : List (Option (Snapshot PassIn))) (others : List PassIn)
    → IsServed table masters turns streams end note returned_pass → passes_in notes ≡ map (λ pass. pass.view) others → passes_in (note ∷ notes) ≡ map (λ pass. pass.view) (cons_option returned_pass others)
one_noted table masters turns streams end (Some note) (Some returned_pass) notes others (is, ours, accepted) rest = ap (λ views. note.value.view ∷ views) rest ∙ ap (λ pass. pass.view ∷ map (λ (other : PassIn). other.view) others) is
one_noted table masters turns streams end None None notes others served rest = rest
one_noted table masters turns streams end (Some note) None notes others served rest = absurd served
one_noted table masters turns streams end None (Some returned_pass) notes others served rest = absurd served

-- ---- all sessions: each is of a task and has ended; the pass that served it was noted and is in the list

module _ {T D E : Type 0} (streams : T → E → Streams) (end : E → SessionEnd) (note : E → Option (Snapshot PassIn)) (ended : D → E) (returned_pass : D → Option PassIn) (table : TableId) (masters : List ℕ) (turns : ℕ) where
  abbrev pub AreServed : List T → List D → Type 0
  AreServed = AllZip (λ task served. IsServed table masters turns (streams task (ended served)) (end (ended served)) (note (ended served)) (returned_pass served))

  pub all_in_journal : (closed : Content) (tasks : List T) (served : List D) → Fits closed → AreServed tasks served → AreOfLine closed (filter_map returned_pass served)
      → AllZip (λ task done. IsInJournal closed turns (streams task done) (end done) (note done)) tasks (map ended served)
  all_in_journal closed [] [] law each passes = tt
  all_in_journal closed [] (d ∷ ds) law each passes = absurd each
  all_in_journal closed (t ∷ ts) [] law each passes = absurd each
  all_in_journal closed (t ∷ ts) (d ∷ ds) law each passes =
      let here = one closed table masters turns (streams t (ended d)) (end (ended d)) (note (ended d)) (returned_pass d) (filter_map returned_pass ds) law each.0 passes in
      (here.0, all_in_journal closed ts ds law each.1 here.1)

  pub all_ours : (tasks : List T) (served : List D) → AreServed tasks served → AllByRecursion (λ pass. pass.table ≡ table) (filter_map returned_pass served)
  all_ours [] [] each = tt
  all_ours [] (d ∷ ds) each = absurd each
  all_ours (t ∷ ts) [] each = absurd each
  all_ours (t ∷ ts) (d ∷ ds) each = one_ours table masters turns (streams t (ended d)) (end (ended d)) (note (ended d)) (returned_pass d) (filter_map returned_pass ds) each.0 (all_ours ts ds each.1)

  pub all_noted : (tasks : List T) (served : List D) → AreServed tasks served → passes_in (map note (map ended served)) ≡ map (λ pass. pass.view) (filter_map returned_pass served)
  all_noted [] [] each = refl
  all_noted [] (d ∷ ds) each = absurd each
  all_noted (t ∷ ts) [] each = absurd each
  all_noted (t ∷ ts) (d ∷ ds) each =
      one_noted table masters turns (streams t (ended d)) (end (ended d)) (note (ended d)) (returned_pass d) (map note (map ended ds)) (filter_map returned_pass ds) each.0 (all_noted ts ds each.1)

-- ---- passes, and what is known about them

pub views_of_line : (closed : Content) (passes : List PassIn) → AreOfLine closed passes → AllByRecursion (IsPassOf closed) (map (λ pass. pass.view) passes)
views_of_line closed [] all = tt
views_of_line closed (pass ∷ passes) all = (all.0, views_of_line closed passes all.1)

pub numbers_of_views : (passes : List PassIn) → map (λ (pass : PassView). pass.number) (map (λ (pass : PassIn). pass.view) passes) ≡ map (λ (pass : PassIn). pass.view.number) passes
numbers_of_views [] = refl
numbers_of_views (pass ∷ passes) = ap (λ numbers. pass.view.number ∷ numbers) (numbers_of_views passes)

-- ---- the number of passes

one_counted : (note : Option (Snapshot PassIn)) (notes : List (Option (Snapshot PassIn))) (n : ℕ) → length (passes_in notes) ≡ n → length (passes_in (note ∷ notes)) ≡ cond (is_some note) 1 0 + n
one_counted (Some note) notes n rest = omega (arith, rest)
one_counted None notes n rest = omega (arith, rest)

pub passes_counted : {E : Type 0} (note : E → Option (Snapshot PassIn)) (sessions : List E) → length (passes_in (map note sessions)) ≡ count_by (λ one. is_some (note one)) sessions
passes_counted note [] = refl
passes_counted note (session ∷ sessions) =
    one_counted (note session) (map note sessions) (count_by (λ one. is_some (note one)) sessions) (passes_counted note sessions)
    ∙ sym (sum_by-cons (λ one. cond (is_some (note one)) 1 0) session sessions)

-- ---- what holds for each task and its session, shown by a part of the task

pub all_of_parts : {T C E : Type 0} (part : T → C) (R : C → E → Type 0) (tasks : List T) (sessions : List E) → AllZip (λ task session. R (part task) session) tasks sessions → AllZip R (map part tasks) sessions
all_of_parts part R [] [] each = tt
all_of_parts part R [] (e ∷ es) each = absurd each
all_of_parts part R (t ∷ ts) [] each = absurd each
all_of_parts part R (t ∷ ts) (e ∷ es) each = (each.0, all_of_parts part R ts es each.1)
