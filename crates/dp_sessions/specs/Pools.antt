-- detail
-- The seats of a worker at the ports of its pool (own).
use Rattle.std.specs.Prelude.{◌≡◌, List, None}
use Rattle.std.specs.List.{AllZip}
use Rattle.dp_shared.specs.Claims.{Claiming, Seated}
use Rattle.dp_sessions.specs.declared.port.LineAndClaims.{LineAndClaims}

-- a seat at these claims that holds nothing
abbrev pub IsSeatAt : Claiming → Seated → Type 0
IsSeatAt claims seat = (seat.table ≡ claims.table) × (seat.view.held ≡ None)

-- a worker's seats: one at each port, in the order of the ports
abbrev pub HasSeats : {L : Type 0} → List (LineAndClaims L Claiming) → List Seated → Type 0
HasSeats ports seats = AllZip (λ port seat. IsSeatAt port.claims seat) ports seats
