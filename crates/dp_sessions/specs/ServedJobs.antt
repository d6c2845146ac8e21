-- detail
-- A job that a worker of a pool served at its port (own).
use Rattle.std.specs.Prelude.{◌≡◌, ℕ, List, Some, slice_get, slice_set}
use Rattle.atomic_table.specs.Seated.{TableId}
use Rattle.dp_shared.specs.Claims.{Seated}
use Rattle.dp_sessions.specs.declared.session.Session.{Session}
use Rattle.dp_sessions.specs.Ended.{IsSessionOf}
use Rattle.dp_sessions.specs.Recorded.{IsRecordedSession}
use Rattle.dp_sessions.specs.Sessions.{Streams}

-- a session with the line of this table and this number, which a seat at the claims of its masters served
pub record IsPortSession (table : TableId) (number : ℕ) (masters : List ℕ) (recorded : ℕ → ℕ → Type 0) (turns : ℕ) (streams : Streams) (before after : Seated) (session : Session) : Type 0 where
  pub is_session : IsSessionOf table masters turns streams before.view after.view session
  pub is_recorded : IsRecordedSession (recorded number) streams session

-- The session was served at the port of this place, with the seat of the same place; the other seats are unchanged. `serves` says what it means
-- that a seat served a session at a port.
pub record IsServedAt {P : Type 0} (serves : P → Seated → Seated → Session → Type 0) (ports : List P) (place : ℕ) (before after : List Seated) (session : Session) : Type 0 where
  pub port : P
  pub here : slice_get ports place ≡ Some port
  pub seat : Seated
  pub seat_is : slice_get before place ≡ Some seat
  pub seat_after : Seated
  pub seats_are : after ≡ slice_set before place seat_after
  pub served : serves port seat seat_after session
