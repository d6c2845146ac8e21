-- The sessions that a worker serves in turn, and keeps.
use Rattle.std.proofs.Common.{◌≡◌, ◌≤◌, ℕ, zero, suc, ◌+◌, ◌-◌, ◌^◌, List, [], ◌∷◌, ◌++◌, length, take, min, Option, Some, None, option_to_list, refl, sym, ap, ◌∙◌, arith, length-append}
use Rattle.std.proofs.lemmas.List.{append-nil, take_all, take-append-le}
use Rattle.std.proofs.lemmas.List.Elements.{All-nil, All-push, filter_map-append}
use Rattle.std.specs.List.{cons_option, filter_map}
use Rattle.dp_shared.specs.Claims.{Seated}
use Rattle.dp_sessions.specs.KeptSessions.{AreServed, HasRoom, IsServed, kept_of}
use Rattle.dp_sessions.specs.declared.jobs.Job.{Job}
use Rattle.dp_sessions.specs.declared.jobs.ServedJob.{ServedJob}
use Rattle.dp_sessions.specs.declared.jobs.ServedSessions.{ServedSessions}
use Rattle.dp_sessions.specs.declared.session.Session.{Session}

-- nothing is kept of a session that was not accepted
pub none_kept : {X : Type 0} (room : ℕ) (xs : List X) → length xs ≤ room → xs ≡ take room (xs ++ [])
none_kept room xs few = sym (ap (λ l. take room l) (append-nil xs) ∙ take_all room xs few)

-- nothing is kept if there is no room
pub no_room : {X : Type 0} (room : ℕ) (xs ys : List X) → length xs ≤ room → room ≤ length xs → xs ≡ take room (xs ++ ys)
no_room room xs ys few full = sym (take-append-le room xs ys full ∙ take_all room xs few)

take_once : {X : Type 0} (room : ℕ) (xs ys : List X) → take room (take room xs ++ ys) ≡ take room (xs ++ ys)
take_once zero xs ys = refl
take_once (suc room) [] ys = refl
take_once (suc room) (x ∷ xs) ys = ap (λ l. x ∷ l) (take_once room xs ys)

only : {X : Type 0} (o : Option X) → cons_option o [] ≡ option_to_list o
only (Some x) = refl
only None = refl

take_nothing : {X : Type 0} (room : ℕ) (xs : List X) → xs ≡ [] → xs ≡ take room []
take_nothing zero xs e = e
take_nothing (suc room) xs e = e

last_kept : {R W : Type 0} (jobs : List (ServedJob R W)) (job : ServedJob R W) → filter_map kept_of (jobs ++ job ∷ []) ≡ filter_map kept_of jobs ++ option_to_list (kept_of job)
last_kept jobs job = filter_map-append kept_of jobs (job ∷ []) ∙ ap (λ l. filter_map kept_of jobs ++ l) (only (kept_of job))

module _ {P R W : Type 0} (serves : P → Job R W → Job R W → Seated → Seated → Session → Type 0) (ports : List P) (room : ℕ) where
  -- no job was served
  pub none_served : (sessions : ServedSessions R W) → HasRoom room sessions → AreServed serves ports room sessions
  none_served sessions has = record {
    jobs = [];
    each = All-nil _;
    count = has.unserved;
    kept = take_nothing room _ has.empty;
  }

  -- one more job was served
  pub one_served : (before after : ServedSessions R W) (job : ServedJob R W) → AreServed serves ports room before → IsServed serves ports job
      → after.served ≡ min (before.served + 1) (2 ^ 32 - 1) → after.kept.items ≡ take room (before.kept.items ++ option_to_list (kept_of job))
      → AreServed serves ports room after
  one_served before after job served is counted keeps = record {
    jobs = served.jobs ++ job ∷ [];
    each = All-push (IsServed serves ports) served.jobs job served.each is;
    count = omega (arith, counted, served.count, length-append served.jobs (job ∷ []));
    kept = keeps ∙ (ap (λ l. take room (l ++ option_to_list (kept_of job))) served.kept
        ∙ (take_once room (filter_map kept_of served.jobs) (option_to_list (kept_of job)) ∙ sym (ap (λ l. take room l) (last_kept served.jobs job))));
  }
