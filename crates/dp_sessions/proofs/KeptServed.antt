-- Each session that is kept was served and accepted.
use Rattle.std.proofs.Common.{◌≡◌, ℕ, List, [], ◌∷◌, All, take, refl, subst}
use Rattle.std.proofs.lemmas.List.Elements.{All-cons, All-head, All-nil, All-same, All-tail, All-take, All-weaker}
use Rattle.std.specs.List.{cons_option, filter_map}
use Rattle.dp_shared.specs.Claims.{Seated}
use Rattle.dp_sessions.specs.KeptAt.{IsKept}
use Rattle.dp_sessions.specs.KeptSessions.{AreServed, IsServed, kept_from, kept_of}
use Rattle.dp_sessions.specs.ServedJobs.{IsServedAt}
use Rattle.dp_sessions.specs.declared.jobs.Job.{Job}
use Rattle.dp_sessions.specs.declared.jobs.KeptSession.{KeptSession}
use Rattle.dp_sessions.specs.declared.jobs.ServedJob.{ServedJob}
use Rattle.dp_sessions.specs.declared.jobs.ServedSessions.{ServedSessions}
use Rattle.dp_sessions.specs.declared.session.Session.{Session}
use Rattle.dp_sessions.specs.declared.session.Session.TheVariants.{Accepted, Rejected}

module _ {P R W : Type 0} (serves : P → Job R W → Job R W → Seated → Seated → Session → Type 0) (ports : List P) where
  one_kept : (job : ServedJob R W) (session : Session) (others : List (KeptSession R W)) → job.session ≡ session → IsServed serves ports job → All (IsKept serves ports) others
      → All (IsKept serves ports) (cons_option (kept_from job session) others)
  one_kept job (Accepted end returned_pass) others is served rest = All-cons (IsKept serves ports) _ others (record {
    port_is = served.port_is;
    before = served.before;
    after = served.after;
    at = subst (λ session. IsServedAt (λ port. serves port job.taken.value job.left.value) ports job.taken.value.port served.before served.after session) is served.at;
  }) rest
  one_kept job (Rejected address end) others is served rest = rest

  all_kept : (jobs : List (ServedJob R W)) → All (IsServed serves ports) jobs → All (IsKept serves ports) (filter_map kept_of jobs)
  all_kept [] each = All-nil (IsKept serves ports)
  all_kept (job ∷ jobs) each =
      one_kept job job.session (filter_map kept_of jobs) refl (All-head (IsServed serves ports) job jobs each) (all_kept jobs (All-tail (IsServed serves ports) job jobs each))

  kept_served : (room : ℕ) (sessions : ServedSessions R W) → AreServed serves ports room sessions → All (IsKept serves ports) sessions.kept.items
  kept_served room sessions served =
      All-same (IsKept serves ports) _ _ served.kept (All-take (IsKept serves ports) room _ (all_kept served.jobs served.each))

  pub all_kept_served : (room : ℕ) (workers : List (ServedSessions R W)) → All (λ sessions. AreServed serves ports room sessions) workers → All (λ sessions. All (IsKept serves ports) sessions.kept.items) workers
  all_kept_served room workers served =
      All-weaker (λ sessions. AreServed serves ports room sessions) (λ sessions. All (IsKept serves ports) sessions.kept.items) (λ sessions one. kept_served room sessions one) workers served
