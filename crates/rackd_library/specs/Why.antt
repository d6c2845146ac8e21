-- detail
-- What C receives of the reason of an entry (own).
use Rattle.std.specs.Prelude.{◌≡◌, ℕ, List, length, Result, Ok, Err}
use Rattle.embedded_rack.specs.declared.entry_reason.EntryReason.{EntryReason}
use Rattle.embedded_rack.specs.declared.entry_reason.ReasonFault.{ReasonFault}
use Rattle.embedded_rack.specs.declared.entry_reason.ReasonFault.TheVariants as faults
use Rattle.embedded_rack.specs.RackCalls.{EmbeddedRack}
use Rattle.embedded_rack.specs.RackReasons.{ExplainsEntry}
use Rattle.rackd_library.specs.declared.facts.Facts.{Facts}
use Rattle.rackd_library.specs.Answers.{copied, copying_number}
use Rattle.rackd_library.specs.BlankFacts.{blank_facts}
use Rattle.rackd_library.specs.ReasonFacts.{facts_of_entry}

-- the number of the call, the number of octets of the sentence, the facts, and the room for the sentence
pub record WhyAnswer : Type 0 where
  pub done : ℕ
  pub count : ℕ
  pub facts : Facts
  pub room : List ℕ

abbrev pub reason_fault_number : ReasonFault → ℕ
reason_fault_number faults.OutOfMemory = 1
reason_fault_number faults.NoLine = 6
reason_fault_number faults.NoEntry = 10

-- the sentence is copied if there is room for all of it
abbrev pub why_answer : Result EntryReason ReasonFault → List ℕ → List ℕ → WhyAnswer
why_answer (Ok reason) sentence room =
    record { done = copying_number sentence room; count = length sentence; facts = facts_of_entry reason; room = copied sentence room }
why_answer (Err fault) sentence room = record { done = reason_fault_number fault; count = 0; facts = blank_facts 0; room = room }

-- it is the answer for the facts and the sentence of the entry, or for a fault
abbrev pub IsWhy : EmbeddedRack → ℕ → ℕ → List ℕ → WhyAnswer → Type 0
IsWhy rack line place room answer =
    (explained : Result EntryReason ReasonFault) × (sentence : List ℕ) × ExplainsEntry rack line place sentence explained × (answer ≡ why_answer explained sentence room)
