-- detail
-- What the workers of a pool leave of the sessions that they served (own).
use Rattle.std.specs.Prelude.{◌≡◌, ℕ, ◌-◌, ◌^◌, List, [], length, take, min, Option, Some, None, vec_capacity}
use Rattle.std.specs.List.{All, filter_map}
use Rattle.dp_shared.specs.Claims.{Seated}
use Rattle.dp_sessions.specs.declared.jobs.Job.{Job}
use Rattle.dp_sessions.specs.declared.jobs.KeptSession.{KeptSession}
use Rattle.dp_sessions.specs.declared.jobs.ServedJob.{ServedJob}
use Rattle.dp_sessions.specs.declared.jobs.ServedSessions.{ServedSessions}
use Rattle.dp_sessions.specs.declared.session.Session.{Session}
use Rattle.dp_sessions.specs.declared.session.Session.TheVariants.{Accepted, Rejected}
use Rattle.dp_sessions.specs.ServedJobs.{IsServedAt}

-- a worker has served nothing yet, and has room for this number of sessions
pub record HasRoom {R W : Type 0} (room : ℕ) (sessions : ServedSessions R W) : Type 0 where
  pub unserved : sessions.served ≡ 0
  pub empty : sessions.kept.items ≡ []
  pub reserved : vec_capacity sessions.kept ≡ room

abbrev pub kept_from : {R W : Type 0} → ServedJob R W → Session → Option (KeptSession R W)
kept_from job (Accepted end returned_pass) = Some (record { port = job.port; end = end; returned_pass = returned_pass; taken = job.taken; left = job.left })
kept_from job (Rejected address end) = None

-- the session of a job that was served, if it was accepted
abbrev pub kept_of : {R W : Type 0} → ServedJob R W → Option (KeptSession R W)
kept_of job = kept_from job job.session

-- A worker served this job at the port that the job names, with its seat there. `serves` says what it means that a seat served a job at a port.
pub record IsServed {P R W : Type 0} (serves : P → Job R W → Job R W → Seated → Seated → Session → Type 0) (ports : List P) (served : ServedJob R W) : Type 0 where
  pub port_is : served.port ≡ served.taken.value.port
  pub before : List Seated
  pub after : List Seated
  pub at : IsServedAt (λ port. serves port served.taken.value served.left.value) ports served.taken.value.port before after served.session

-- A worker served these jobs in turn. It counted them, and kept the first sessions that were accepted, as many as there is room for.
pub record AreServed {P R W : Type 0} (serves : P → Job R W → Job R W → Seated → Seated → Session → Type 0) (ports : List P) (room : ℕ) (sessions : ServedSessions R W) : Type 0 where
  pub jobs : List (ServedJob R W)
  pub each : All (IsServed serves ports) jobs
  pub count : sessions.served ≡ min (length jobs) (2 ^ 32 - 1)
  pub kept : sessions.kept.items ≡ take room (filter_map kept_of jobs)
