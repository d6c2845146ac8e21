-- The sessions that the workers of a pool kept, by the journal of their closed line.
use Rattle.std.proofs.Common.{◌≡◌, ℕ, zero, suc, List, [], ◌∷◌, ◌++◌, All, map, Some, slice_get, sym, subst}
use Rattle.std.proofs.lemmas.List.Elements.{All-cons, All-head, All-nil, All-tail}
use Rattle.std.specs.List.{AllByRecursion, flat_map}
use Rattle.dp_line.specs.declared.description.LineSpec.{LineSpec}
use Rattle.dp_shared.specs.Claims.{Claiming}
use Rattle.dp_shared.specs.Content.{Content}
use Rattle.dp_shared.specs.LineLock.{IsPassOf}
use Rattle.dp_shared.specs.Passes.{PassIn, table_of}
use Rattle.dp_shared.specs.declared.claim_view.ClaimView.{ClaimView}
use Rattle.dp_shared.specs.declared.one_slot.OneSlot.{OneSlot}
use Rattle.dp_sessions.specs.KeptAt.{IsKept}
use Rattle.dp_sessions.specs.Sessions.{IsAccepted, Streams}
use Rattle.dp_sessions.specs.declared.jobs.Job.{Job}
use Rattle.dp_sessions.specs.declared.jobs.KeptSession.{KeptSession}
use Rattle.dp_sessions.specs.declared.jobs.ServedSessions.{ServedSessions}
use Rattle.dp_sessions.specs.declared.port.LineAndClaims.{LineAndClaims}
use Rattle.dp_sessions.specs.declared.session.Session.TheVariants.{Accepted}
use Rattle.test_passes.specs.Pools.{IsAnswered, serves}
use Rattle.test_passes.proofs.Journals.{Fits}

-- there is one port
only : {P : Type 0} (port other : P) (place : ℕ) → slice_get (port ∷ []) place ≡ Some other → port ≡ other
only port other zero is = cc
only port other (suc place) is = cc

both : {X : Type 0} (P : X → Type 0) (xs ys : List X) → AllByRecursion P xs → AllByRecursion P ys → AllByRecursion P (xs ++ ys)
both P [] ys first second = second
both P (x ∷ xs) ys first second = (first.0, both P xs ys first.1 second)

parted : {X : Type 0} (P : X → Type 0) (xs ys : List X) → AllByRecursion P (xs ++ ys) → AllByRecursion P xs × AllByRecursion P ys
parted P [] ys all = (tt, all)
parted P (x ∷ xs) ys all = let rest = parted P xs ys all.1 in ((all.0, rest.0), rest.1)

module _ {S V P R W : Type 0} (streams : Job R W → Job R W → Streams) (recorded : ℕ → ℕ → Type 0) (turns : ℕ) (port : LineAndClaims (OneSlot S V LineSpec P) Claiming) where
  abbrev pub Kept : KeptSession R W → Type 0
  Kept = IsKept (serves streams recorded turns) (port ∷ [])

  abbrev pub KeepsAll : ServedSessions R W → Type 0
  KeepsAll worker = All Kept worker.kept.items

  -- by a pass of the line
  is_accepted : (kept : KeptSession R W) → Kept kept
      → (kept.returned_pass.table ≡ table_of port.line)
      × ((before after : ClaimView) × IsAccepted port.claims.masters turns (streams kept.taken.value kept.left.value) before after kept.returned_pass.view kept.end)
  is_accepted kept is =
      let here = sym (only port is.at.port kept.taken.value.port is.at.here) in
      let served = subst (λ at. serves streams recorded turns at kept.taken.value kept.left.value is.at.seat is.at.seat_after (Accepted kept.end kept.returned_pass)) here is.at.served in
      (served.is_session.0, (is.at.seat.view, is.at.seat_after.view, served.is_session.1))

  ours : (kept : List (KeptSession R W)) → All Kept kept → AllByRecursion (λ pass. pass.table ≡ table_of port.line) (map (λ session. session.returned_pass) kept)
  ours [] each = tt
  ours (session ∷ kept) each = ((is_accepted session (All-head Kept session kept each)).0, ours kept (All-tail Kept session kept each))

  pub all_ours : (workers : List (ServedSessions R W)) → All KeepsAll workers
      → AllByRecursion (λ pass. pass.table ≡ table_of port.line) (flat_map (λ worker. map (λ session. session.returned_pass) worker.kept.items) workers)
  all_ours [] each = tt
  all_ours (worker ∷ workers) each =
      both _ (map (λ session. session.returned_pass) worker.kept.items) _ (ours worker.kept.items (All-head KeepsAll worker workers each)) (all_ours workers (All-tail KeepsAll worker workers each))

  answered : (closed : Content) → Fits closed → (kept : List (KeptSession R W)) → All Kept kept → AllByRecursion (λ (pass : PassIn). IsPassOf closed pass.view) (map (λ session. session.returned_pass) kept)
      → All (IsAnswered streams closed turns) kept
  answered closed law [] each passes = All-nil (IsAnswered streams closed turns)
  answered closed law (session ∷ kept) each passes =
      let (before, after, accepted) = (is_accepted session (All-head Kept session kept each)).1 in
      All-cons (IsAnswered streams closed turns) session kept
      (law port.claims.masters turns (streams session.taken.value session.left.value) before after session.returned_pass.view session.end accepted passes.0.fits)
      (answered closed law kept (All-tail Kept session kept each) passes.1)

  pub all_answered : (closed : Content) → Fits closed → (workers : List (ServedSessions R W)) → All KeepsAll workers
      → AllByRecursion (λ (pass : PassIn). IsPassOf closed pass.view) (flat_map (λ worker. map (λ session. session.returned_pass) worker.kept.items) workers)
      → All (λ worker. All (IsAnswered streams closed turns) worker.kept.items) workers
  all_answered closed law [] each passes = All-nil (λ (worker : ServedSessions R W). All (IsAnswered streams closed turns) worker.kept.items)
  all_answered closed law (worker ∷ workers) each passes =
      let those = parted _ (map (λ session. session.returned_pass) worker.kept.items) _ passes in
      All-cons (λ (one : ServedSessions R W). All (IsAnswered streams closed turns) one.kept.items) worker workers
      (answered closed law worker.kept.items (All-head KeepsAll worker workers each) those.0)
      (all_answered closed law workers (All-tail KeepsAll worker workers each) those.1)
