-- promise
-- The sessions of masters that the workers of a rack served, and the journals of the lines at which they were served (own).
use Rattle.std.specs.Prelude.{◌≡◌, ℕ, ◌-◌, ◌^◌, List, [], All, length, map, min, take, sum_by, slice_get, Option, Some, None}
use Rattle.std.specs.List.{filter_map, flat_map}
use Rattle.atomic_table.specs.Seated.{TableId}
use Rattle.dp_line.specs.declared.description.LineSpec.{LineSpec}
use Rattle.dp_sessions.specs.Ended.{IsSessionOf}
use Rattle.dp_sessions.specs.Sessions.{Streams}
use Rattle.dp_sessions.specs.Tied.{HasAnsweredMaster}
use Rattle.dp_sessions.specs.declared.port.LineAndClaims.{LineAndClaims}
use Rattle.dp_sessions.specs.declared.session.Session.{Session}
use Rattle.dp_sessions.specs.declared.session.Session.TheVariants.{Accepted, Rejected}
use Rattle.dp_sessions.specs.declared.session_end.SessionEnd.{SessionEnd}
use Rattle.dp_shared.specs.Claims.{Claiming}
use Rattle.dp_shared.specs.Content.{Content}
use Rattle.dp_shared.specs.Numbers.{under}
use Rattle.dp_shared.specs.Passes.{PassIn, table_of}
use Rattle.dp_shared.specs.declared.claim_view.ClaimView.{ClaimView}
use Rattle.dp_shared.specs.declared.one_slot.OneSlot.{OneSlot}
use Rattle.serve_lines.specs.ReturnedPasses.{PassList, passes_at}

-- ---- places

-- where sessions of masters are served: the table of a line, which distinguishes its passes from those of other lines, and the masters of its claims
pub record MasterPlace : Type 0 where
  pub table : TableId
  pub masters : List ℕ

abbrev pub place_at : {S V P : Type 0} → LineAndClaims (OneSlot S V LineSpec P) Claiming → MasterPlace
place_at port = record { table = table_of port.line; masters = port.claims.masters }

-- ---- sessions

-- a session: its place among those of the rack, what was read and written, and how it ended
pub record MasterSession : Type 0 where
  pub place : ℕ
  pub streams : Streams
  pub session : Session

-- it was served at its place, in at most `turns` reads; if it was accepted, by a pass of the line there
pub record IsMasterSession (turns : ℕ) (places : List MasterPlace) (master : MasterSession) : Type 0 where
  pub at : MasterPlace
  pub here : slice_get places master.place ≡ Some at
  pub before : ClaimView
  pub after : ClaimView
  pub is_session : IsSessionOf at.table at.masters turns master.streams before after master.session

-- a session that was accepted, and the pass that served it
pub record AcceptedSession : Type 0 where
  pub place : ℕ
  pub streams : Streams
  pub end : SessionEnd
  pub pass : PassIn

abbrev pub accepted_as : MasterSession → Session → Option AcceptedSession
accepted_as master (Accepted end returned_pass) = Some (record { place = master.place; streams = master.streams; end = end; pass = returned_pass })
accepted_as master (Rejected address end) = None

abbrev pub accepted_of : MasterSession → Option AcceptedSession
accepted_of master = accepted_as master master.session

-- ---- workers

-- how many sessions each worker keeps
abbrev pub kept_sessions : ℕ
kept_sessions = 16

-- the sessions that a worker keeps of those that it served in turn: the first that were accepted
abbrev pub first_accepted : List MasterSession → List AcceptedSession
first_accepted masters = take kept_sessions (filter_map accepted_of masters)

-- those that all workers keep
abbrev pub kept_of : List (List MasterSession) → List AcceptedSession
kept_of workers = flat_map first_accepted workers

-- These are the sessions that each worker served in turn, and this is their number; the numbers saturate at 2^32 - 1
pub record AreSessions (turns : ℕ) (places : List MasterPlace) (count : ℕ) (workers : List (List MasterSession)) : Type 0 where
  pub each : All (All (IsMasterSession turns places)) workers
  pub count_is : count ≡ min (sum_by (λ masters. min (length masters) (2 ^ 32 - 1)) workers) (2 ^ 32 - 1)

-- the workers of a rack served this number of sessions at these places, and left the passes of those that they keep, one list for each place
pub record HasServed (turns : ℕ) (places : List MasterPlace) (count : ℕ) (passes : List PassList) : Type 0 where
  pub workers : List (List MasterSession)
  pub sessions : AreSessions turns places count workers
  pub as_many : length passes ≡ length places
  pub sorted : (place : ℕ) (list : PassList) → slice_get passes place ≡ Some list → list.items ≡ passes_at (λ session. session.place) (λ session. session.pass) place (kept_of workers)

-- the workers of a rack served this number of sessions, at one place for each line; these are the masters of its lines
pub record AreServedAt (turns count : ℕ) (masters : List (List ℕ)) : Type 0 where
  pub places : List MasterPlace
  pub of_lines : map (λ at. at.masters) places ≡ masters
  pub workers : List (List MasterSession)
  pub sessions : AreSessions turns places count workers

-- ---- journals

-- by the journal of its closed line, a session that was kept wrote E5, and then the replies of the entries under the number of its pass
pub record IsInJournal (turns : ℕ) (journals : List Content) (session : AcceptedSession) : Type 0 where
  pub journal : Content
  pub here : slice_get journals session.place ≡ Some journal
  pub answered : HasAnsweredMaster turns session.streams session.pass.view.saw_halt (under session.pass.view.number journal.numbers journal.book.entries) session.end

-- the workers of a rack served this number of sessions, at one place for each line; these are the masters of its lines. The journals of the closed
-- lines show what the sessions wrote that the workers keep
pub record AreInJournals (turns count : ℕ) (masters : List (List ℕ)) (journals : List Content) : Type 0 where
  pub places : List MasterPlace
  pub as_many : length places ≡ length journals
  pub of_lines : map (λ at. at.masters) places ≡ masters
  pub workers : List (List MasterSession)
  pub sessions : AreSessions turns places count workers
  pub answered : All (IsInJournal turns journals) (kept_of workers)
