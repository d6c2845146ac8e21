-- helper
-- A pool of workers at one port, and the journal of its closed line (own).
use Rattle.std.specs.Prelude.{◌≡◌, ℕ, ◌-◌, ◌^◌, List, [], ◌∷◌, All, min, sum_by}
use Rattle.dp_line.specs.declared.description.LineSpec.{LineSpec}
use Rattle.dp_shared.specs.Claims.{Claiming, Seated}
use Rattle.dp_shared.specs.Content.{Content}
use Rattle.dp_shared.specs.Numbers.{under}
use Rattle.dp_shared.specs.Passes.{line_of, table_of}
use Rattle.dp_shared.specs.declared.one_slot.OneSlot.{OneSlot}
use Rattle.dp_sessions.specs.KeptSessions.{AreServed}
use Rattle.dp_sessions.specs.ServedJobs.{IsPortSession}
use Rattle.dp_sessions.specs.Sessions.{Streams}
use Rattle.dp_sessions.specs.Tied.{HasAnsweredMaster}
use Rattle.dp_sessions.specs.declared.jobs.Job.{Job}
use Rattle.dp_sessions.specs.declared.jobs.KeptSession.{KeptSession}
use Rattle.dp_sessions.specs.declared.jobs.ServedSessions.{ServedSessions}
use Rattle.dp_sessions.specs.declared.port.LineAndClaims.{LineAndClaims}
use Rattle.dp_sessions.specs.declared.session.Session.{Session}

-- what it means that a seat served a job at a port
abbrev pub serves : {S V P R W : Type 0} → (Job R W → Job R W → Streams) → (ℕ → ℕ → Type 0) → ℕ → LineAndClaims (OneSlot S V LineSpec P) Claiming → Job R W → Job R W → Seated → Seated → Session → Type 0
serves streams recorded turns port taken left = IsPortSession (table_of port.line) (line_of port.line).number port.claims.masters recorded turns (streams taken left)

-- a session that is kept wrote E5, and then the replies of the journal's entries under the number of its pass
abbrev pub IsAnswered : {R W : Type 0} → (Job R W → Job R W → Streams) → Content → ℕ → KeptSession R W → Type 0
IsAnswered streams closed turns kept =
    HasAnsweredMaster turns (streams kept.taken.value kept.left.value) kept.returned_pass.view.saw_halt (under kept.returned_pass.view.number closed.numbers closed.book.entries) kept.end

-- The workers of a pool served this many sessions at a port, and kept the first that were accepted, up to `room` each. By the journal of the closed
-- line each of these was answered.
pub record ArePoolSessions {S V P R W : Type 0} (streams : Job R W → Job R W → Streams) (recorded : ℕ → ℕ → Type 0) (turns room : ℕ)
    (port : LineAndClaims (OneSlot S V LineSpec P) Claiming) (closed : Content) (count : ℕ) : Type 0 where
  pub workers : List (ServedSessions R W)
  pub count_is : count ≡ min (sum_by (λ worker. worker.served) workers) (2 ^ 32 - 1)
  pub served : All (AreServed (serves streams recorded turns) (port ∷ []) room) workers
  pub answered : All (λ worker. All (IsAnswered streams closed turns) worker.kept.items) workers
