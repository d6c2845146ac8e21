-- The sessions of masters that are kept, by the journals of the closed lines.
use Rattle.std.proofs.Common.{◌≡◌, ℕ, zero, suc, ◌+◌, ◌<◌, ◌==◌, Bool, true, false, List, [], ◌∷◌, ◌++◌, All, length, map, take, Option, Some, None, slice_get, slice_index_or, refl, sym, ap, subst, ◌∙◌, arith, eq-eqb, eqb-true}
use Rattle.std.specs.Prelude.{option_map}
use Rattle.std.proofs.lemmas.List.Elements.{All-append, All-cons, All-head, All-nil, All-tail, All-take}
use Rattle.std.proofs.lemmas.Option.{slice_get-get_or, slice_get-map, slice_get_within}
use Rattle.std.specs.List.{AllByRecursion, cons_option, filter_map, flat_map}
use Rattle.dp_line.specs.declared.description.LineSpec.{LineSpec}
use Rattle.dp_sessions.specs.Sessions.{IsAccepted, Streams}
use Rattle.dp_sessions.specs.Tied.{HasAnsweredMaster}
use Rattle.dp_sessions.specs.declared.port.LineAndClaims.{LineAndClaims}
use Rattle.dp_sessions.specs.declared.session.Session.{Session}
use Rattle.dp_sessions.specs.declared.session.Session.TheVariants.{Accepted, Rejected}
use Rattle.dp_sessions.specs.declared.session_end.SessionEnd.{SessionEnd}
use Rattle.dp_shared.specs.Claims.{Claiming}
use Rattle.dp_shared.specs.Content.{Content}
use Rattle.dp_shared.specs.LineLock.{FitsPass, IsPassOf}
use Rattle.dp_shared.specs.Numbers.{under}
use Rattle.dp_shared.specs.Passes.{PassIn, table_of}
use Rattle.dp_shared.specs.declared.claim_view.ClaimView.{ClaimView}
use Rattle.dp_shared.specs.declared.line_view.PassView.{PassView}
use Rattle.dp_shared.specs.declared.one_slot.OneSlot.{OneSlot}
use Rattle.serve_lines.specs.MasterSessions.{AcceptedSession, AreInJournals, HasServed, IsInJournal, IsMasterSession, MasterPlace, MasterSession, accepted_as, accepted_of, first_accepted, kept_of, kept_sessions, place_at}
use Rattle.serve_lines.specs.ReturnedPasses.{AgreeWith, AllPaired, AreOfPort, PassList, pass_if, passes_at}

-- the law `a_master_has_its_entries` for this journal
abbrev pub Fits : Content → Type 0
Fits closed =
    (masters : List ℕ) (turns : ℕ) (streams : Streams) (before after : ClaimView) (pass : PassView) (end : SessionEnd)
    → IsAccepted masters turns streams before after pass end → FitsPass closed pass
    → HasAnsweredMaster turns streams pass.saw_halt (under pass.number closed.numbers closed.book.entries) end

-- ---- elements at the same place

pub paired_from : {A B : Type 0} (R : A → B → Type 0) (xs : List A) (ys : List B)
    → ((i : ℕ) (x : A) (y : B) → slice_get xs i ≡ Some x → slice_get ys i ≡ Some y → R x y) → AllPaired R xs ys
paired_from R [] ys each = tt
paired_from R (x ∷ xs) [] each = tt
paired_from R (x ∷ xs) (y ∷ ys) each = (each 0 x y refl refl, paired_from R xs ys (λ i. each (suc i)))

pub paired_at : {A B : Type 0} (R : A → B → Type 0) (xs : List A) (ys : List B) (i : ℕ) (x : A) (y : B) → AllPaired R xs ys → slice_get xs i ≡ Some x → slice_get ys i ≡ Some y → R x y
paired_at R [] ys i x y each here there = absurd cc
paired_at R (a ∷ xs) [] i x y each here there = absurd cc
paired_at R (a ∷ xs) (b ∷ ys) zero x y each here there = let p : a ≡ x = cc in let q : b ≡ y = cc in subst (λ z. R z y) p (subst (λ z. R a z) q each.0)
paired_at R (a ∷ xs) (b ∷ ys) (suc i) x y each here there = paired_at R xs ys i x y each.1 here there

-- ---- sessions that were accepted

-- a session that was accepted at its place, by a pass of the line there
record IsAcceptedAt (turns : ℕ) (places : List MasterPlace) (session : AcceptedSession) : Type 0 where
  pub at : MasterPlace
  pub here : slice_get places session.place ≡ Some at
  pub ours : session.pass.table ≡ at.table
  pub before : ClaimView
  pub after : ClaimView
  pub accepted : IsAccepted at.masters turns session.streams before after session.pass.view session.end

module _ (turns : ℕ) (places : List MasterPlace) where
  one_accepted : (master : MasterSession) (session : Session) (others : List AcceptedSession) → master.session ≡ session → IsMasterSession turns places master → All (IsAcceptedAt turns places) others
      → All (IsAcceptedAt turns places) (cons_option (accepted_as master session) others)
  one_accepted master (Accepted end returned_pass) others same is rest =
      let served = rw same at is.is_session in
      All-cons (IsAcceptedAt turns places) _ others (record { at = is.at; here = is.here; ours = served.0; before = is.before; after = is.after; accepted = served.1 }) rest
  one_accepted master (Rejected address end) others same is rest = rest

  all_accepted : (masters : List MasterSession) → All (IsMasterSession turns places) masters → All (IsAcceptedAt turns places) (filter_map accepted_of masters)
  all_accepted [] each = All-nil (IsAcceptedAt turns places)
  all_accepted (master ∷ masters) each =
      one_accepted master master.session (filter_map accepted_of masters) refl (All-head (IsMasterSession turns places) master masters each) (all_accepted masters (All-tail (IsMasterSession turns places) master masters each))

  kept_accepted : (workers : List (List MasterSession)) → All (All (IsMasterSession turns places)) workers → All (IsAcceptedAt turns places) (kept_of workers)
  kept_accepted [] each = All-nil (IsAcceptedAt turns places)
  kept_accepted (masters ∷ workers) each =
      All-append (IsAcceptedAt turns places) (first_accepted masters) (kept_of workers)
      (All-take (IsAcceptedAt turns places) kept_sessions (filter_map accepted_of masters) (all_accepted masters (All-head (All (IsMasterSession turns places)) masters workers each)))
      (kept_accepted workers (All-tail (All (IsMasterSession turns places)) masters workers each))

-- ---- their passes

abbrev at_place : ℕ → List AcceptedSession → List PassIn
at_place place sessions = passes_at (λ session. session.place) (λ session. session.pass) place sessions

-- the passes at a place are of the line there
one_ours : (turns : ℕ) (places : List MasterPlace) (place : ℕ) (at : MasterPlace) (session : AcceptedSession) (b : Bool) (others : List PassIn) → slice_get places place ≡ Some at
    → (session.place == place) ≡ b → IsAcceptedAt turns places session → AllByRecursion (λ pass. pass.table ≡ at.table) others
    → AllByRecursion (λ pass. pass.table ≡ at.table) (cons_option (pass_if b session.pass) others)
one_ours turns places place at session true others here same is rest =
    let equal : session.place ≡ place = eqb-true session.place place same in
    let found : is.at ≡ at = cc in
    (is.ours ∙ ap (λ (p : MasterPlace). p.table) found, rest)
one_ours turns places place at session false others here same is rest = rest

all_ours : (turns : ℕ) (places : List MasterPlace) (place : ℕ) (at : MasterPlace) (sessions : List AcceptedSession) → slice_get places place ≡ Some at → All (IsAcceptedAt turns places) sessions
    → AllByRecursion (λ pass. pass.table ≡ at.table) (at_place place sessions)
all_ours turns places place at [] here each = tt
all_ours turns places place at (session ∷ sessions) here each =
    one_ours turns places place at session (session.place == place) (at_place place sessions) here refl (All-head (IsAcceptedAt turns places) session sessions each)
    (all_ours turns places place at sessions here (All-tail (IsAcceptedAt turns places) session sessions each))

-- the lists that the workers of a rack leave are of passes of the lines at the ports
pub lists_ours : {S V P : Type 0} (turns : ℕ) (ports : List (LineAndClaims (OneSlot S V LineSpec P) Claiming)) (count : ℕ) (passes : List PassList) → HasServed turns (map place_at ports) count passes
    → AllPaired AreOfPort ports passes
lists_ours turns ports count passes served =
    paired_from AreOfPort ports passes (λ place port list here there.
    subst (AllByRecursion (λ pass. pass.table ≡ table_of port.line)) (sym (served.sorted place list there))
    (all_ours turns (map place_at ports) place (place_at port) (kept_of served.workers) (slice_get-map place_at ports place ∙ ap (option_map place_at) here)
    (kept_accepted turns (map place_at ports) served.workers served.sessions.each)))

-- ---- journals

-- what is known of the passes at each place
abbrev Agrees : List Content → ℕ → PassIn → Type 0
Agrees journals place pass = (journal : Content) × (slice_get journals place ≡ Some journal) × IsPassOf journal pass.view

first_agrees : (journals : List Content) (place : ℕ) (pass : PassIn) (others : List PassIn) → AllByRecursion (Agrees journals place) (cons_option (pass_if (place == place) pass) others) → Agrees journals place pass
first_agrees journals place pass others all = (subst (λ b. AllByRecursion (Agrees journals place) (cons_option (pass_if b pass) others)) (eq-eqb place place refl) all).0

others_agree : (journals : List Content) (place : ℕ) (b : Bool) (pass : PassIn) (others : List PassIn) → AllByRecursion (Agrees journals place) (cons_option (pass_if b pass) others) → AllByRecursion (Agrees journals place) others
others_agree journals place true pass others all = all.1
others_agree journals place false pass others all = all

module _ (turns : ℕ) (places : List MasterPlace) (journals : List Content) (law : (journal : Content) → Fits journal) where
  all_in_journals : (sessions : List AcceptedSession) → All (IsAcceptedAt turns places) sessions
      → ((place : ℕ) → place < length places → AllByRecursion (Agrees journals place) (at_place place sessions)) → All (IsInJournal turns journals) sessions
  all_in_journals [] each agree = All-nil (IsInJournal turns journals)
  all_in_journals (session ∷ sessions) each agree =
      let is = All-head (IsAcceptedAt turns places) session sessions each in
      let (journal, here, pass) = first_agrees journals session.place session.pass (at_place session.place sessions) (agree session.place (slice_get_within places session.place is.at is.here)) in
      All-cons (IsInJournal turns journals) session sessions
      (record { journal = journal; here = here; answered = law journal is.at.masters turns session.streams is.before is.after session.pass.view session.end is.accepted pass.fits })
      (all_in_journals sessions (All-tail (IsAcceptedAt turns places) session sessions each)
      (λ place within. others_agree journals place (session.place == place) session.pass (at_place place sessions) (agree place within)))

agree_at : (journals : List Content) (place : ℕ) (journal : Content) (passes : List PassIn) → slice_get journals place ≡ Some journal → AllByRecursion (λ pass. IsPassOf journal pass.view) passes
    → AllByRecursion (Agrees journals place) passes
agree_at journals place journal [] here all = tt
agree_at journals place journal (pass ∷ passes) here all = ((journal, here, all.0), agree_at journals place journal passes here all.1)

element_at : {X : Type 0} (xs : List X) (i : ℕ) → i < length xs → (x : X) × (slice_get xs i ≡ Some x)
element_at [] i within = absurd (omega (arith, within))
element_at (x ∷ xs) zero within = (x, refl)
element_at (x ∷ xs) (suc i) within = element_at xs i (omega (arith, within))

-- what the sessions that are kept wrote, by the journals of the closed lines
pub in_journals : (turns : ℕ) (places : List MasterPlace) (count : ℕ) (passes : List PassList) (masters : List (List ℕ)) (journals : List Content) → ((journal : Content) → Fits journal)
    → length journals ≡ length places → map (λ at. at.masters) places ≡ masters → HasServed turns places count passes → AllPaired AgreeWith journals passes
    → AreInJournals turns count masters journals
in_journals turns places count passes masters journals law long of_lines served agree = record {
  places = places;
  as_many = sym long;
  of_lines = of_lines;
  workers = served.workers;
  sessions = served.sessions;
  answered = all_in_journals turns places journals law (kept_of served.workers) (kept_accepted turns places served.workers served.sessions.each) (λ place within.
      let (journal, here) = element_at journals place (omega (arith, long, within)) in
      let (list, there) = element_at passes place (omega (arith, served.as_many, within)) in
      agree_at journals place journal (at_place place (kept_of served.workers)) here
      (subst (AllByRecursion (λ pass. IsPassOf journal pass.view)) (served.sorted place list there) (paired_at AgreeWith journals passes place journal list agree here there)));
}
