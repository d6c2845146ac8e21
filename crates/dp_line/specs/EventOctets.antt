-- helper
-- The octets of events.
use Rattle.std.specs.Prelude.{◌<◌, All}
use Rattle.dp_line.specs.declared.event.Event.{Event}
use Rattle.dp_line.specs.declared.event.Event.TheVariants.{Request}

-- each octet of a request is below 256, as its type says (own)
abbrev pub HasOctets : Event → Type 0
HasOctets (Request master octets) = All (λ octet. octet < 256) octets.items
HasOctets event = Unit {0}
