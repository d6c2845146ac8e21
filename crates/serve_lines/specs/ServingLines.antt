-- detail
-- What lines have while they are served (own).
use Rattle.std.specs.Prelude.{◌≤◌, List, Vec, All, length}
use Rattle.std.specs.declared.alloc.Global.{Global}
use Rattle.dp_sessions.specs.Pools.{HasSeats}
use Rattle.dp_sessions.specs.declared.port.LineAndClaims.{LineAndClaims}
use Rattle.dp_shared.specs.Claims.{Claiming, Seated}
use Rattle.serve_lines.specs.OpenedLines.{AreOpened}
use Rattle.serve_lines.specs.declared.opened_lines.SeatedWorkers.{SeatedWorkers}
use Rattle.serve_lines.specs.declared.opened_lines.ServedLines.{ServedLines}

-- at most 8 lines, and what was opened for each
pub record AreServedLines (served : ServedLines) : Type 0 where
  pub few : length served.lines.now ≤ 8
  pub opened : AreOpened served.lines.now served.ports.now

-- 1 to 32 workers, each with a seat at each port
pub record AreSeated (workers : SeatedWorkers) : Type 0 where
  pub many : (1 ≤ length workers.seats.items) × (length workers.seats.items ≤ 32)
  pub seats : All (λ own. HasSeats workers.ports.now own.items) workers.seats.items

-- each worker has a seat at each port
abbrev pub HaveSeats : {L : Type 0} → List (LineAndClaims L Claiming) → List (Vec Seated Global) → Type 0
HaveSeats ports seats = All (λ own. HasSeats ports own.items) seats
