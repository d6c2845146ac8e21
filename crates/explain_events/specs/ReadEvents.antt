-- detail
-- The octets that an event sends (own).
use Rattle.std.specs.Prelude.{ℕ, List, []}
use Rattle.dp_line.specs.declared.event.Event.{Event}
use Rattle.dp_line.specs.declared.event.Event.TheVariants.{Request, Operator}

-- the octets of a request; an event of the operator has none
abbrev pub octets_of_event : Event → List ℕ
octets_of_event (Request master octets) = octets.items
octets_of_event (Operator op) = []
