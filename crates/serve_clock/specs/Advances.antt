-- detail
-- What a clock does with its pass (own).
use Rattle.std.specs.Prelude.{◌≡◌, ◌<◌, ◌+◌, ◌==◌, ℕ, false, if◌then◌else◌, IfNone, List, [], ◌∷◌, ◌++◌, length, map, take, Option, Some, None}
use Rattle.dp_line.specs.declared.event.Event.{Event}
use Rattle.dp_line.specs.declared.event.Event.TheVariants.{Request, Operator}
use Rattle.dp_line.specs.declared.event.Op.{Op}
use Rattle.dp_line.specs.declared.event.Op.TheVariants as ops
use Rattle.dp_line.specs.declared.event.Outcome.TheVariants.{Refused}
use Rattle.dp_line.specs.declared.fault.OperatorFault.TheVariants.{Halted}
use Rattle.dp_audit.specs.declared.entry.Entry.{Entry}
use Rattle.dp_audit.specs.declared.entry.Receipt.{Receipt}
use Rattle.dp_shared.specs.Content.{Content}
use Rattle.dp_shared.specs.Numbers.{under}
use Rattle.dp_shared.specs.Passes.{with_receipt}
use Rattle.dp_shared.specs.declared.line_view.PassView.{PassView}
use Rattle.serve_clock.specs.declared.line_time.Advance.{Advance}
use Rattle.serve_clock.specs.declared.line_time.LineTime.{LineTime}
use Rattle.serve_clock.specs.Moments.{advances_at_each, time_after_all}

-- the units of time of an event
abbrev pub units_of_op : Op → ℕ
units_of_op (ops.Tick units) = units
units_of_op other = 0

abbrev pub units_of : Event → ℕ
units_of (Request master octets) = 0
units_of (Operator op) = units_of_op op

-- the units of all these events
abbrev pub units_in : List Event → ℕ
units_in [] = 0
units_in (event ∷ others) = units_of event + units_in others

-- the events of the receipts of a pass
abbrev pub events_by : PassView → List Event
events_by pass = map (λ (receipt : Receipt). receipt.event) pass.receipts

-- the events of the entries of a journal under the number of a pass
abbrev pub events_under : Content → ℕ → List Event
events_under content number = map (λ (entry : Entry). entry.event) (under number content.numbers content.book.entries)

-- the receipt of a tick of these units, if there are any: with a place, so the units pass on the line, or with the outcome that it is halted
abbrev pub IsTickOf : ℕ → Option Receipt → Type 0
IsTickOf units None = units ≡ 0
IsTickOf units (Some receipt) = (0 < units) × (receipt.event ≡ Operator (ops.Tick units)) × IfNone receipt.place (receipt.outcome ≡ Refused Halted)

-- the pass has the receipt of the tick, if there is one
abbrev pub HasReceived : Option Receipt → PassView → PassView → Type 0
HasReceived None before after = after ≡ before
HasReceived (Some receipt) before after = after ≡ with_receipt before receipt receipt.place

-- the tick of these units was sent, if there are any, and this is its receipt
pub record IsAdvanced (units : ℕ) (receipt : Option Receipt) (before after : PassView) : Type 0 where
  pub tick : IsTickOf units receipt
  pub received : HasReceived receipt before after

-- the tick of an advance; none if no unit passes
abbrev pub tick_of : Advance → List Event
tick_of advance = if advance.units == 0 then [] else Operator (ops.Tick advance.units) ∷ []

-- the ticks of advances, in order
abbrev pub ticks_of : List Advance → List Event
ticks_of [] = []
ticks_of (advance ∷ others) = tick_of advance ++ ticks_of others

-- the time of a line at moment 0, given that at a later moment
abbrev pub started : LineTime → LineTime
started time = record time { counted = 0 }

-- the time was advanced to these moments, one after another, and the pass sent the tick of each: its receipts are the first of these ticks, in
-- order and with no other event, and all of them unless an answer to the pass said that the line is halted
pub record HasTicked (time : LineTime) (moments : List ℕ) (pass : PassView) : Type 0 where
  pub time_is : time ≡ time_after_all (started time) moments
  pub first : events_by pass ≡ take (length pass.receipts) (ticks_of (advances_at_each (started time) moments))
  pub all : pass.saw_halt ≡ false → events_by pass ≡ ticks_of (advances_at_each (started time) moments)
