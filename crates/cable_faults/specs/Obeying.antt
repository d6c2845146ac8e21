-- detail
-- What a line of standard input does (own).
use Rattle.std.specs.Prelude.{ℕ, ◌==◌, nat_lt, if◌then◌else◌, List, [], ◌∷◌, ◌++◌, length, position, remove, Option, Some, None}
use Rattle.cable_faults.specs.declared.cable.Cable.{Cable}
use Rattle.cable_faults.specs.declared.order.Answer.{Answer}
use Rattle.cable_faults.specs.declared.order.Answer.TheVariants.{Done, Waits, TooMany}
use Rattle.cable_faults.specs.declared.order.Line.{Line}
use Rattle.cable_faults.specs.declared.order.Line.TheVariants.{Off, On, Faults, Clear}
use Rattle.cable_faults.specs.declared.order.Order.{Order}
use Rattle.cable_faults.specs.Decisions.{is_among}

-- each address once, and there is room for all
abbrev pub with_address : List ℕ → ℕ → List ℕ
with_address off address =
    if is_among off address then off
    else if nat_lt (length off) 127 then off ++ address ∷ []
    else off

abbrev pub without_at : List ℕ → Option ℕ → List ℕ
without_at off None = off
without_at off (Some place) = remove off place

abbrev pub without : List ℕ → ℕ → List ℕ
without off address = without_at off (position (λ one. one == address) off)

-- at most 64 orders wait, in the order of their lines
abbrev pub with_order : List Order → Order → List Order
with_order waiting order = if nat_lt (length waiting) 64 then waiting ++ order ∷ [] else waiting

-- the addresses of the slaves that are off the bus after a line
abbrev pub off_after : List ℕ → Line → List ℕ
off_after off (Off address) = with_address off address
off_after off (On address) = without off address
off_after off (Faults order) = off
off_after off Clear = []

-- the orders that wait after a line
abbrev pub orders_after : List Order → Line → List Order
orders_after waiting (Off address) = waiting
orders_after waiting (On address) = waiting
orders_after waiting (Faults order) = with_order waiting order
orders_after waiting Clear = []

abbrev pub off_answer : List ℕ → ℕ → Answer
off_answer off address =
    if is_among off address then Done
    else if nat_lt (length off) 127 then Done
    else TooMany

abbrev pub order_answer : List Order → Answer
order_answer waiting = if nat_lt (length waiting) 64 then Waits else TooMany

abbrev pub answer_to : Cable → Line → Answer
answer_to cable (Off address) = off_answer cable.off.items address
answer_to cable (On address) = Done
answer_to cable (Faults order) = order_answer cable.waiting.items
answer_to cable Clear = Done
