-- helper
-- A session that a worker of a pool kept, and where it was served (own).
use Rattle.std.specs.Prelude.{◌≡◌, List}
use Rattle.dp_shared.specs.Claims.{Seated}
use Rattle.dp_sessions.specs.declared.jobs.Job.{Job}
use Rattle.dp_sessions.specs.declared.jobs.KeptSession.{KeptSession}
use Rattle.dp_sessions.specs.declared.session.Session.{Session}
use Rattle.dp_sessions.specs.declared.session.Session.TheVariants.{Accepted}
use Rattle.dp_sessions.specs.ServedJobs.{IsServedAt}

-- a worker served this session at the port that its job names, and accepted it
pub record IsKept {P R W : Type 0} (serves : P → Job R W → Job R W → Seated → Seated → Session → Type 0) (ports : List P) (kept : KeptSession R W) : Type 0 where
  pub port_is : kept.port ≡ kept.taken.value.port
  pub before : List Seated
  pub after : List Seated
  pub at : IsServedAt (λ port. serves port kept.taken.value kept.left.value) ports kept.taken.value.port before after (Accepted kept.end kept.returned_pass)
