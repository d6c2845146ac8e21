-- detail
-- What is opened for lines (own).
use Rattle.std.specs.Prelude.{◌≡◌, List, [], ◌∷◌, ◌++◌}
use Rattle.std.specs.List.{AllZip}
use Rattle.dp_line.specs.declared.description.LineSpec.{LineSpec}
use Rattle.dp_sessions.specs.declared.port.LineAndClaims.{LineAndClaims}
use Rattle.dp_shared.specs.Claims.{Claiming}
use Rattle.dp_shared.specs.Passes.{line_of}
use Rattle.dp_shared.specs.declared.one_slot.OneSlot.{OneSlot}
use Rattle.serve_lines.specs.declared.served_line.ServedLine.{ServedLine}

-- the port has the line with this description, and claims of the addresses of its masters
abbrev pub IsPortOf : {S V P : Type 0} → LineSpec → LineAndClaims (OneSlot S V LineSpec P) Claiming → Type 0
IsPortOf line port = (line_of port.line ≡ line) × (port.claims.masters ≡ line.masters.items)

-- each port is that of the line that is described at the same place
abbrev pub AreOpened : {S V P : Type 0} → List ServedLine → List (LineAndClaims (OneSlot S V LineSpec P) Claiming) → Type 0
AreOpened lines ports = AllZip (λ line port. IsPortOf line.spec port) lines ports

-- one more port, of this line
abbrev pub IsOneMore : {S V P : Type 0} → LineSpec → List (LineAndClaims (OneSlot S V LineSpec P) Claiming) → List (LineAndClaims (OneSlot S V LineSpec P) Claiming) → Type 0
IsOneMore {S} {V} {P} line before after = (port : LineAndClaims (OneSlot S V LineSpec P) Claiming) × (after ≡ before ++ port ∷ []) × IsPortOf line port
