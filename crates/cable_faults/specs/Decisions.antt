-- promise
-- What becomes of each telegram: a function of the options, the lines of text, the random words and the telegrams before it (own).
use Rattle.std.specs.Prelude.{ℕ, ◌+◌, ◌-◌, ◌==◌, ◌&&◌, nat_le, Bool, true, false, if◌then◌else◌, List, position, remove, slice_get, slice_set, Option, Some, None}
use Rattle.std.specs.List.{list_any}
use Rattle.dp_telegram.specs.Access.{address_of}
use Rattle.dp_telegram.specs.FrameText.{frame_at}
use Rattle.dp_telegram.specs.declared.frame.Frame.{Frame}
use Rattle.dp_telegram.specs.declared.frame.Frame.TheVariants as frames
use Rattle.cable_faults.specs.declared.cable.Cable.{Cable}
use Rattle.cable_faults.specs.declared.cable.Decision.{Decision}
use Rattle.cable_faults.specs.declared.random_words.Draw.{Draw}
use Rattle.cable_faults.specs.declared.treatment.Treatment.{Treatment}
use Rattle.cable_faults.specs.declared.treatment.Treatment.TheVariants.{Passed, Withheld, Lost, Late}
use Rattle.cable_faults.specs.declared.options.Covered.{Covered}
use Rattle.cable_faults.specs.declared.options.Covered.TheVariants.{Both, Requests, Replies}
use Rattle.cable_faults.specs.declared.options.Direction.{Direction}
use Rattle.cable_faults.specs.declared.options.Direction.TheVariants.{Request, Reply}
use Rattle.cable_faults.specs.declared.options.Options.{Options}
use Rattle.cable_faults.specs.declared.order.Order.{Order}
use Rattle.cable_faults.specs.declared.order.OrderKind.{OrderKind}
use Rattle.cable_faults.specs.declared.order.OrderKind.TheVariants as ordered
use Rattle.cable_faults.specs.Chances.{hits}
use Rattle.cable_faults.specs.Treatments.{cut_treatment, lateness, spoilt_treatment}

abbrev pub are_covered : Covered → Direction → Bool
are_covered Both direction = true
are_covered Requests Request = true
are_covered Requests Reply = false
are_covered Replies Request = false
are_covered Replies Reply = true

-- ---- the slave of a telegram

-- a request belongs to the slave that it is sent to
abbrev pub slave_of_request : Frame → Option ℕ
slave_of_request (frames.Token da sa) = None
slave_of_request frames.Ack = None
slave_of_request (frames.Telegram telegram) = Some (address_of telegram.da)

-- a reply belongs to the slave that sends it; a short acknowledgement names none, and belongs to the slave of the last request
abbrev pub slave_of_reply : Frame → Option ℕ → Option ℕ
slave_of_reply (frames.Token da sa) asked = None
slave_of_reply frames.Ack asked = asked
slave_of_reply (frames.Telegram telegram) asked = Some (address_of telegram.sa)

abbrev pub slave_of : Direction → Frame → Option ℕ → Option ℕ
slave_of Request frame asked = slave_of_request frame
slave_of Reply frame asked = slave_of_reply frame asked

-- ---- lines of text

abbrev pub is_among : List ℕ → ℕ → Bool
is_among addresses address = list_any (λ one. one == address) addresses

-- the slave is off the bus
abbrev pub is_off : List ℕ → Option ℕ → Bool
is_off off None = false
is_off off (Some slave) = is_among off slave

-- the place of the first order for this slave
abbrev pub first_for : List Order → ℕ → Option ℕ
first_for waiting slave = position (λ (order : Order). order.slave == slave) waiting

-- the place of the order that decides what becomes of a reply: its slave is on the bus, and the order is the first one for it
abbrev pub turn_of : Direction → Bool → List Order → Option ℕ → Option ℕ
turn_of Request off waiting slave = None
turn_of Reply true waiting slave = None
turn_of Reply false waiting None = None
turn_of Reply false waiting (Some slave) = first_for waiting slave

abbrev pub order_at : List Order → Option ℕ → Option Order
order_at waiting None = None
order_at waiting (Some place) = slice_get waiting place

-- one reply of an order has come
abbrev pub with_one_less : Order → Order
with_one_less order = record order { left = order.left - 1 }

abbrev pub is_last : Order → Bool
is_last order = nat_le order.left 1

-- the orders after a reply of the one at this place: it goes with its last reply
abbrev pub used_at : List Order → ℕ → Option Order → List Order
used_at waiting place None = waiting
used_at waiting place (Some order) = if is_last order then remove waiting place else slice_set waiting place (with_one_less order)

abbrev pub used : List Order → Option ℕ → List Order
used waiting None = waiting
used waiting (Some place) = used_at waiting place (slice_get waiting place)

-- the order whose last reply has come
abbrev pub done_by : Option Order → Option Order
done_by None = None
done_by (Some order) = if is_last order then Some order else None

-- ---- what becomes of a telegram

-- by chance, at most one fault: the first one of lost, spoilt, cut and late whose chance comes true
abbrev pub chance_treatment : Options → List ℕ → Draw → Treatment
chance_treatment options octets draw =
    if hits options.lose draw.lose then Lost
    else if hits options.spoil draw.spoil then spoilt_treatment octets draw.place draw.change
    else if hits options.cut draw.cut then cut_treatment octets draw.place
    else if hits options.late draw.late then Late options.late_milliseconds
    else Passed

abbrev pub order_treatment : OrderKind → List ℕ → Draw → Treatment
order_treatment ordered.Lose octets draw = Lost
order_treatment ordered.Spoil octets draw = spoilt_treatment octets draw.place draw.change
order_treatment ordered.Cut octets draw = cut_treatment octets draw.place
order_treatment (ordered.Late milliseconds) octets draw = Late milliseconds

-- a token that a master sends to itself: it is the only master of its ring
abbrev pub is_own_token : Frame → Bool
is_own_token (frames.Token da sa) = da == sa
is_own_token frames.Ack = false
is_own_token (frames.Telegram telegram) = false

-- an order comes before chance
abbrev pub ordered_treatment : Option Order → Options → Direction → List ℕ → Draw → Treatment
ordered_treatment (Some order) options direction octets draw = order_treatment order.kind octets draw
ordered_treatment None options direction octets draw = if are_covered options.covered direction then chance_treatment options octets draw else Passed

-- a token that is withheld and a slave that is off the bus come before all faults
abbrev pub treatment_by : Options → Direction → Bool → Option Order → List ℕ → Draw → Treatment
treatment_by options direction off order octets draw =
    if options.drops_tokens && is_own_token (frame_at octets) then Withheld
    else if off then Lost
    else ordered_treatment order options direction octets draw

-- each reply is delayed
abbrev pub delay_of : Options → Direction → ℕ
delay_of options Request = 0
delay_of options Reply = options.delay

-- the decision, with the slave of the telegram, whether it is off, and the place of the order for it
abbrev pub decision_by : Options → Direction → Option ℕ → Bool → Option Order → List ℕ → Draw → Decision
decision_by options direction slave off order octets draw =
    let treatment = treatment_by options direction off order octets draw in
    record { treatment = treatment; wait = delay_of options direction + lateness treatment; slave = slave; done = done_by order }

-- the decision on a telegram of this direction, after a request to the slave `asked`
abbrev pub decision_of : Cable → Direction → List ℕ → Option ℕ → Draw → Decision
decision_of cable direction octets asked draw =
    let slave = slave_of direction (frame_at octets) asked in
    let off = is_off cable.off.items slave in
    decision_by cable.options direction slave off (order_at cable.waiting.items (turn_of direction off cable.waiting.items slave)) octets draw

-- the orders after it
abbrev pub waiting_after : Cable → Direction → List ℕ → Option ℕ → List Order
waiting_after cable direction octets asked =
    let slave = slave_of direction (frame_at octets) asked in
    used cable.waiting.items (turn_of direction (is_off cable.off.items slave) cable.waiting.items slave)
