-- A job that was served with the seat of a place.
use Rattle.std.proofs.Common.{◌≡◌, ℕ, ◌<◌, List, length, slice_index_or, slice_set, refl, subst}
use Rattle.std.proofs.lemmas.Option.{slice_get-get_or, slice_get_read}
use Rattle.dp_shared.specs.Claims.{Seated}
use Rattle.dp_sessions.specs.ServedJobs.{IsServedAt}
use Rattle.dp_sessions.specs.declared.session.Session.{Session}

pub served_here : {P : Type 0} (serves : P → Seated → Seated → Session → Type 0) (ports : List P) (place index : ℕ) (seats : List Seated) (port : P) (d after : Seated) (session : Session)
    → index ≡ place → index < length ports → index < length seats → port ≡ slice_index_or ports index port → serves port (slice_index_or seats index d) after session
    → IsServedAt serves ports place seats (slice_set seats index after) session
served_here serves ports place index seats port d after session same within within_seats here served =
    subst (λ n. IsServedAt serves ports n seats (slice_set seats index after) session) same (record {
      port = port;
      here = slice_get_read ports (length ports) index port refl within here;
      seat = slice_index_or seats index d;
      seat_is = slice_get-get_or seats index d within_seats;
      seat_after = after;
      seats_are = refl;
      served = served;
    })
