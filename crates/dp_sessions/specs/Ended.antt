-- detail
-- A session that has ended, with the pass that served it (own).
use Rattle.std.specs.Prelude.{◌≡◌, ℕ, List, Some, None}
use Rattle.atomic_table.specs.Seated.{TableId}
use Rattle.rack_devices.specs.declared.driven_slave.DrivenSlave.{DrivenSlave}
use Rattle.dp_shared.specs.declared.claim_view.ClaimView.{ClaimView}
use Rattle.dp_shared.specs.Passes.{new_pass}
use Rattle.dp_sessions.specs.declared.session_end.SessionEnd.{SessionEnd}
use Rattle.dp_sessions.specs.declared.session.Session.{Session}
use Rattle.dp_sessions.specs.declared.session.Session.TheVariants.{Accepted, Rejected}
use Rattle.dp_sessions.specs.Sessions.{CameNothing, IsAccepted, IsRefused, Streams}
use Rattle.dp_sessions.specs.Operators.{HasNoPass, HasOperatedBy}

abbrev pub end_of : Session → SessionEnd
end_of (Accepted end returned_pass) = end
end_of (Rejected address end) = end

-- a session of a master with the line of this table, of at most `turns` reads; the claim views are those of the seat that claims the address
abbrev pub IsSessionOf : TableId → List ℕ → ℕ → Streams → ClaimView → ClaimView → Session → Type 0
IsSessionOf table masters turns streams before after (Accepted end returned_pass) = (returned_pass.table ≡ table) × IsAccepted masters turns streams before after returned_pass.view end
IsSessionOf table masters turns streams before after (Rejected None end) = CameNothing turns streams before after end
IsSessionOf table masters turns streams before after (Rejected (Some address) end) = IsRefused masters streams before after address end

-- a session of an operator with the line of this table, of at most `turns` reads, whose devices drive these slaves
abbrev pub IsOperatorSessionOf : TableId → List DrivenSlave → ℕ → Streams → Session → Type 0
IsOperatorSessionOf table driven turns streams (Accepted end returned_pass) = (returned_pass.table ≡ table) × ((number : ℕ) × HasOperatedBy driven turns streams (new_pass number 127) returned_pass.view end)
IsOperatorSessionOf table driven turns streams (Rejected address end) = (address ≡ None) × HasNoPass streams end
