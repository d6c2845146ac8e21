-- detail
-- The choice of the entries that are explained (own).
use Rattle.std.specs.Prelude.{ℕ, ◌==◌, ◌&&◌, ◌||◌, not, nat_le, Bool, true, false, Option, Some, None}
use Rattle.std.specs.List.{list_any}
use Rattle.dp_line.specs.declared.event.Event.{Event}
use Rattle.dp_line.specs.declared.event.Outcome.{Outcome}
use Rattle.dp_line.specs.declared.event.Outcome.TheVariants.{Spread, Released}
use Rattle.dp_line.specs.Refusals.{is_refused_event}
use Rattle.explain_texts.specs.declared.choice.Choice.{Choice}
use Rattle.explain_events.specs.declared.sender_and_receiver.Receiver.TheVariants.{Slave}
use Rattle.explain_events.specs.declared.sender_and_receiver.SenderAndReceiver.{SenderAndReceiver}
use Rattle.explain_events.specs.declared.sender_and_receiver.SenderAndReceiver.TheVariants as senders
use Rattle.explain_events.specs.Heads.{sender_and_receiver_of}
use Rattle.explain_events.specs.EventContexts.{EventContextView}
use Rattle.explain_events.specs.Ways.{is_fault}

-- a place is not before the first chosen one, and not after the last
abbrev pub is_from : Option ℕ → ℕ → Bool
is_from None place = true
is_from (Some first) place = nat_le first place

abbrev pub is_to : Option ℕ → ℕ → Bool
is_to None place = true
is_to (Some last) place = nat_le place last

-- an event goes only to this slave
abbrev pub goes_to : ℕ → SenderAndReceiver → Bool
goes_to address (senders.Master master (Slave other)) = other == address
goes_to address (senders.Operator (Some other)) = other == address
goes_to address sender_and_receiver = false

-- an entry is about a slave: its event goes to the slave, releases it, or reaches it as a request to all slaves
abbrev pub is_about : ℕ → SenderAndReceiver → Outcome → Bool
is_about address sender_and_receiver (Spread pairs) = list_any (λ pair. pair.0 == address) pairs.items
is_about address sender_and_receiver (Released addresses) = list_any (λ other. other == address) addresses.items
is_about address sender_and_receiver outcome = goes_to address sender_and_receiver

abbrev pub is_of_slave : Option ℕ → SenderAndReceiver → Outcome → Bool
is_of_slave None sender_and_receiver outcome = true
is_of_slave (Some address) sender_and_receiver outcome = is_about address sender_and_receiver outcome

-- a master sent the request
abbrev pub comes_from : ℕ → SenderAndReceiver → Bool
comes_from master (senders.Master sender receiver) = sender == master
comes_from master (senders.Operator address) = false

abbrev pub is_of_master : Option ℕ → SenderAndReceiver → Bool
is_of_master None sender_and_receiver = true
is_of_master (Some master) sender_and_receiver = comes_from master sender_and_receiver

-- the entry, before which the context is this one, passes every field of the choice
abbrev pub is_chosen : Choice → EventContextView → ℕ → Event → Outcome → Bool
is_chosen choice context place event outcome =
    is_from choice.from place
    && is_to choice.to place
    && is_of_slave choice.slave (sender_and_receiver_of event) outcome
    && is_of_master choice.master (sender_and_receiver_of event)
    && (not choice.refused || is_refused_event event outcome)
    && (not choice.faults || is_fault context event outcome)
    && not choice.summary
