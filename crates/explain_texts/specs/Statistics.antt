-- detail
-- What an event counts of the stations of a line (own).
use Rattle.std.specs.Prelude.{ℕ, ◌-◌, if◌then◌else◌, List, [], ◌∷◌, slice_get, Option, Some, None, option_and_then, unwrap_or}
use Rattle.std.specs.Option.{option_map_or}
use Rattle.dp_telegram.specs.declared.access.Parts.{Parts}
use Rattle.dp_telegram.specs.declared.frame.Telegram.{Telegram}
use Rattle.dp_telegram.specs.Access.{address_of, parts_of}
use Rattle.dp_sap.specs.AccessTable.{same_point, slave_diag}
use Rattle.dp_responder.specs.declared.rule.Rule.{Rule}
use Rattle.dp_responder.specs.declared.rule.Rule.TheVariants as rules
use Rattle.dp_responder.specs.Rules.{is_refusal}
use Rattle.dp_slave.specs.declared.description.SlaveSpec.{SlaveSpec}
use Rattle.dp_slave.specs.declared.view.SlaveView.{SlaveView}
use Rattle.dp_line.specs.declared.event.Event.{Event}
use Rattle.dp_line.specs.declared.event.Event.TheVariants.{Request, Operator}
use Rattle.dp_line.specs.declared.event.Outcome.{Outcome}
use Rattle.dp_line.specs.declared.event.Outcome.TheVariants.{Reply, Silence, Spread, Done}
use Rattle.dp_line.specs.Hearing.{telegram_spelt}
use Rattle.dp_line.specs.Refusals.{refuses_broadcast}
use Rattle.dp_line.specs.World.{World}
use Rattle.explain_events.specs.declared.ending.Ending.{Ending}
use Rattle.explain_events.specs.declared.ending.Ending.TheVariants as endings
use Rattle.explain_events.specs.declared.way.Answered.{Answered}
use Rattle.explain_events.specs.declared.way.Answered.TheVariants as ways
use Rattle.explain_events.specs.Changes.{same_holder, touched}
use Rattle.explain_events.specs.Endings.{ending_by}
use Rattle.explain_events.specs.Shown.{shown_at}
use Rattle.explain_events.specs.EventContexts.{EventContextView}
use Rattle.dp_audit.specs.Times.{time_after}
use Rattle.explain_events.specs.Ways.{answered_as}
use Rattle.explain_texts.specs.declared.statistics.AddressCounts.{AddressCounts}
use Rattle.explain_texts.specs.declared.statistics.Count.TheVariants.{Sent, Began}
use Rattle.explain_texts.specs.declared.statistics.Item.{Item}
use Rattle.explain_texts.specs.declared.statistics.Item.TheVariants as items
use Rattle.explain_texts.specs.StationCounts.{counted_at, counted_at_both}

-- ---- requests

-- Done: Data_Exchange names no access point, and Slave_Diag its own (IEC 61158-6-3, service access points)
abbrev pub done_item : Option ℕ → Option Item
done_item None = Some items.Exchange
done_item (Some point) = if same_point (Some point) slave_diag then Some items.Diagnosis else None

abbrev pub rule_item : Option Parts → Rule → Option Item
rule_item parts rules.Done = option_and_then (λ p. done_item p.dsap) parts
rule_item parts rules.Status = Some items.Poll
rule_item parts rule = if is_refusal rule then Some (items.Refused rule) else None

-- the item of a request with these parts that was answered in this way
abbrev pub way_item : Option Parts → Answered → Option Item
way_item parts (ways.ByRule rule) = rule_item parts rule
way_item parts ways.LiveListPoll = Some items.Poll
way_item parts ways.Retry = Some items.Retry
way_item parts ways.OtherRepeat = None
way_item parts ways.WrongSetPrm = None
way_item parts ways.WrongChkCfg = None
way_item parts ways.NotAskedFor = None
way_item parts ways.NoneSelected = Some (items.Refused rules.NotSelected)

-- an item of a request, if it has one, at the receiver of its telegram, if it has one, and at its sender
abbrev pub item_counted : Option ℕ → ℕ → Option Item → List AddressCounts → List AddressCounts
item_counted receiver master None statistics = statistics
item_counted None master (Some item) statistics = counted_at master (Sent item 0) statistics
item_counted (Some receiver) master (Some item) statistics = counted_at_both receiver master item 0 statistics

abbrev pub telegram_counted : ℕ → Option Telegram → Answered → List AddressCounts → List AddressCounts
telegram_counted master None way statistics = item_counted None master (way_item None way) statistics
telegram_counted master (Some telegram) way statistics =
    item_counted (Some (address_of telegram.da)) master (way_item (parts_of telegram) way) statistics

abbrev pub answer_counted : EventContextView → ℕ → List ℕ → Rule → List AddressCounts → List AddressCounts
answer_counted context master octets rule statistics =
    telegram_counted master (telegram_spelt octets) (answered_as context master octets rule) statistics

-- a Global_Control to all slaves, by the rule of one of them: that it is for other groups is no refusal
abbrev pub broadcast_item : Rule → Option Item
broadcast_item rule = if refuses_broadcast rule then Some (items.Refused rule) else None

abbrev pub spread_counted : ℕ → List (ℕ × Rule) → List AddressCounts → List AddressCounts
spread_counted master [] statistics = statistics
spread_counted master (pair ∷ pairs) statistics = spread_counted master pairs (item_counted (Some pair.0) master (broadcast_item pair.1) statistics)

-- a request, by its outcome. If it reached the last place, the halt was recorded instead
abbrev pub request_counted : EventContextView → ℕ → List ℕ → Outcome → List AddressCounts → List AddressCounts
request_counted context master octets (Reply reply rule) statistics = answer_counted context master octets rule statistics
request_counted context master octets (Silence rule) statistics = answer_counted context master octets rule statistics
request_counted context master octets Done statistics = answer_counted context master octets rules.Done statistics
request_counted context master octets (Spread pairs) statistics = spread_counted master pairs.items statistics
request_counted context master octets outcome statistics = statistics

abbrev pub event_counted : EventContextView → Event → Outcome → List AddressCounts → List AddressCounts
event_counted context (Request master octets) outcome statistics = request_counted context master octets.items outcome statistics
event_counted context (Operator op) outcome statistics = statistics

-- ---- holds

-- a time as a number: before the first tick it is 0
abbrev pub moment : Option ℕ → ℕ
moment time = unwrap_or time 0

-- the time at which the last hold of a slave began
abbrev pub began_at : List AddressCounts → ℕ → ℕ
began_at statistics address = option_map_or (λ counts. counts.began) (slice_get statistics address) 0

-- a hold that ends now
abbrev pub hold_counted : ℕ → Ending → ℕ → Option ℕ → List AddressCounts → List AddressCounts
hold_counted now ending slave None statistics = statistics
hold_counted now ending slave (Some master) statistics =
    counted_at_both slave master (items.Released ending) (now - began_at statistics slave) statistics

-- a hold that begins now
abbrev pub hold_begun : ℕ → ℕ → Option ℕ → List AddressCounts → List AddressCounts
hold_begun now slave None statistics = statistics
hold_begun now slave (Some master) statistics = counted_at slave (Began now) statistics

-- a slave before and after an event: nothing counts if its holder is unchanged
abbrev pub change_counted : ℕ → Event → ℕ → Option SlaveView → Option SlaveView → List AddressCounts → List AddressCounts
change_counted now event slave None after statistics = statistics
change_counted now event slave (Some before) None statistics = statistics
change_counted now event slave (Some before) (Some after) statistics =
    if same_holder before.holder after.holder then statistics
    else hold_begun now slave after.holder (hold_counted now (ending_by event) slave before.holder statistics)

abbrev pub changes_counted : World → World → ℕ → Event → List ℕ → List AddressCounts → List AddressCounts
changes_counted before after now event [] statistics = statistics
changes_counted before after now event (slave ∷ slaves) statistics =
    changes_counted before after now event slaves (change_counted now event slave (shown_at before slave) (shown_at after slave) statistics)

-- after an event, by the context before it, the line after it and its outcome. It reads only slaves whose holder it can change
abbrev pub statistics_after : List AddressCounts → EventContextView → World → Event → Outcome → List AddressCounts
statistics_after statistics context after event outcome =
    changes_counted context.world after (moment (time_after context.time event)) event (touched event outcome) (event_counted context event outcome statistics)

-- a hold that lasts to the end
abbrev pub lasting_counted : ℕ → ℕ → Option SlaveView → List AddressCounts → List AddressCounts
lasting_counted now slave None statistics = statistics
lasting_counted now slave (Some shown) statistics = hold_counted now endings.Lasts slave shown.holder statistics

-- with the holds of these slaves that last to the end
abbrev pub all_lasting_counted : World → ℕ → List SlaveSpec → List AddressCounts → List AddressCounts
all_lasting_counted world now [] statistics = statistics
all_lasting_counted world now (slave ∷ slaves) statistics =
    all_lasting_counted world now slaves (lasting_counted now slave.address (shown_at world slave.address) statistics)
