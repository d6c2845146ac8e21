-- detail
-- The reason of an entry of a line in process: its facts and its sentence, as an explanation of the journal has them (own).
use Rattle.std.specs.Prelude.{codes, ℕ, zero, suc, ◌+◌, ◌-◌, nat_lt, if◌then◌else◌, Bool, List, [], ◌∷◌, length, drop, map, take, Option, Some, None, option_and_then, option_map, unwrap_or, true, false, Result, Ok, Err, ◌≡◌}
use Rattle.dp_telegram.specs.FrameText.{frame_of}
use Rattle.dp_text.specs.Words.{lines_of, same_text}
use Rattle.dp_responder.specs.declared.rule.Rule.{Rule}
use Rattle.dp_responder.specs.declared.rule.Rule.TheVariants as rules
use Rattle.dp_line.specs.declared.event.Event.{Event}
use Rattle.dp_line.specs.declared.event.Event.TheVariants.{Request, Operator}
use Rattle.dp_line.specs.declared.event.Outcome.{Outcome}
use Rattle.dp_line.specs.declared.event.Outcome.TheVariants as outcomes
use Rattle.dp_line.specs.Endless.{endless}
use Rattle.dp_line.specs.Steps.{step}
use Rattle.dp_line.specs.World.{Description, World, start_of}
use Rattle.dp_audit.specs.declared.entry.Entry.{Entry}
use Rattle.dp_audit.specs.Journal.{Journal, kept_in}
use Rattle.dp_audit.specs.Times.{time_after}
use Rattle.explain_events.specs.declared.line_reasons.LineReason.{LineReason}
use Rattle.explain_events.specs.declared.op_results.OpResult.{OpResult}
use Rattle.explain_events.specs.declared.reason.Reason.{Reason}
use Rattle.explain_events.specs.declared.sender_and_receiver.Receiver.{Receiver}
use Rattle.explain_events.specs.declared.sender_and_receiver.Receiver.TheVariants as receivers
use Rattle.explain_events.specs.EventContexts.{EventContextView}
use Rattle.explain_events.specs.ExplainedEntries.{explained_entry_text}
use Rattle.explain_events.specs.Heads.{receiver_of_frame}
use Rattle.explain_events.specs.LineReasons.{line_reason_of}
use Rattle.explain_events.specs.Notes.{first_notes, notes_after}
use Rattle.explain_events.specs.OpResults.{op_result}
use Rattle.explain_events.specs.Reasons.{reason_at}
use Rattle.explain_events.specs.ReleaseChanges.{releases_after}
use Rattle.explain_events.specs.Releases.{first_releases}
use Rattle.embedded_rack.specs.declared.entry_reason.EntryReason.{EntryReason}
use Rattle.embedded_rack.specs.declared.entry_reason.EntryReason.TheVariants as reasons
use Rattle.embedded_rack.specs.declared.entry_reason.ReasonFault.{ReasonFault}
use Rattle.embedded_rack.specs.declared.entry_reason.ReasonFault.TheVariants as faults

-- ---- what is known before an entry

-- before the first entry of a line, or of one that forgets old entries
abbrev pub first_context : Bool → Description → EventContextView
first_context forgets line = record {
  description = line;
  world = start_of (if forgets then endless line else line);
  notes = first_notes (map (λ slave. slave.address) line.slaves) line.masters;
  releases = first_releases;
  time = None;
}

abbrev pub world_after : World → Entry → World
world_after world entry = (step world entry.event).world

-- after an entry, by its recorded place, event and outcome
abbrev pub context_after : EventContextView → Entry → EventContextView
context_after context entry = record {
  description = context.description;
  world = world_after context.world entry;
  notes = notes_after context.notes entry.place entry.event entry.outcome;
  releases = releases_after context.releases context.world (world_after context.world entry) entry.place entry.event entry.outcome;
  time = time_after context.time entry.event;
}

-- after a number of entries from a place on; None if one of them is not stored
abbrev pub replayed : Journal → EventContextView → ℕ → ℕ → Option EventContextView
replayed journal context place zero = Some context
replayed journal context place (suc left) =
    option_and_then (λ entry. replayed journal (context_after context entry) (place + 1) left) (kept_in journal place)

-- the entries before a place are taken, or one of them is not stored
abbrev pub Replays : Option EventContextView → EventContextView → Bool → Type 0
Replays None context taken = taken ≡ false
Replays (Some replayed) context taken = (taken ≡ true) × (context ≡ replayed)

-- ---- the facts

abbrev pub reason_of_slave : Option Reason → EntryReason
reason_of_slave None = reasons.Unknown
reason_of_slave (Some reason) = reasons.Slave reason

-- of a request to this receiver
abbrev pub reason_of_receiver : EventContextView → ℕ → List ℕ → Receiver → Rule → EntryReason
reason_of_receiver context master octets (receivers.Slave address) rule = reason_of_slave (reason_at context master octets address rule)
reason_of_receiver context master octets other rule = reasons.Unknown

abbrev pub reason_of_line : EventContextView → ℕ → List ℕ → Rule → Option LineReason → EntryReason
reason_of_line context master octets rule None = reason_of_receiver context master octets (receiver_of_frame (frame_of octets)) rule
reason_of_line context master octets rule (Some reason) = reasons.Line reason

-- of a request that this rule answered: a rule of the line, or else of the slave that the request was sent to
abbrev pub reason_of_rule : EventContextView → ℕ → List ℕ → Rule → EntryReason
reason_of_rule context master octets rule =
    reason_of_line context master octets rule (line_reason_of context.description.masters master (frame_of octets) rule)

abbrev pub reason_of_request : EventContextView → ℕ → List ℕ → Outcome → EntryReason
reason_of_request context master octets (outcomes.Reply reply rule) = reason_of_rule context master octets rule
reason_of_request context master octets (outcomes.Silence rule) = reason_of_rule context master octets rule
reason_of_request context master octets outcomes.Done = reason_of_rule context master octets rules.Done
reason_of_request context master octets (outcomes.Spread pairs) = reasons.ToAll
reason_of_request context master octets (outcomes.Released addresses) = reasons.Unknown
reason_of_request context master octets (outcomes.Refused fault) = reasons.Unknown

abbrev pub reason_of_op : Option OpResult → EntryReason
reason_of_op None = reasons.Unknown
reason_of_op (Some result) = reasons.Operator result

abbrev pub reason_of_event : EventContextView → Event → Outcome → EntryReason
reason_of_event context (Request master octets) outcome = reason_of_request context master octets.items outcome
reason_of_event context (Operator op) outcome = reason_of_op (op_result context.world op outcome)

-- ---- the sentence

-- a row with the result of an entry begins with this text, of 19 characters
abbrev pub result_label : List ℕ
result_label = codes "       result      "

-- the text of a row with the result; None for another row
abbrev pub result_of_row : List ℕ → Option (List ℕ)
result_of_row row =
    if nat_lt (length row) 19 then None else if same_text (take 19 row) result_label then Some (drop 19 row) else None

-- the text of the first row with the result; nothing if there is none
abbrev pub first_result : List (List ℕ) → List ℕ
first_result [] = []
first_result (row ∷ rows) = unwrap_or (result_of_row row) (first_result rows)

-- the sentence of an entry: that of the rows which an explanation has of it
abbrev pub sentence_of_entry : EventContextView → Entry → List ℕ
sentence_of_entry context entry =
    first_result (lines_of (explained_entry_text context (world_after context.world entry) entry.place entry.event entry.outcome))

-- ---- both

pub record EntryExplained : Type 0 where
  pub reason : EntryReason
  pub sentence : List ℕ

abbrev pub entry_explained : EventContextView → Entry → EntryExplained
entry_explained context entry = record { reason = reason_of_event context entry.event entry.outcome; sentence = sentence_of_entry context entry }

-- the entry at a place, whose journal began in this context; None if it is not stored, or one before it is not
abbrev pub explained_at : Journal → EventContextView → ℕ → Option EntryExplained
explained_at journal first place =
    option_and_then (λ entry. option_map (λ context. entry_explained context entry) (replayed journal first 1 (place - 1))) (kept_in journal place)

-- what a call gives: the facts and the sentence, or NoEntry if there is no such entry. OutOfMemory may come instead of each
abbrev pub Explains : Option EntryExplained → List ℕ → Result EntryReason ReasonFault → Type 0
Explains None sentence (Ok reason) = ⊥
Explains (Some explained) sentence (Ok reason) = record { reason = reason; sentence = sentence } ≡ explained
Explains None sentence (Err faults.NoEntry) = Unit {0}
Explains (Some explained) sentence (Err faults.NoEntry) = ⊥
Explains explained sentence (Err faults.OutOfMemory) = Unit {0}
Explains explained sentence (Err faults.NoLine) = ⊥
