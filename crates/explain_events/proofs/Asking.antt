-- A request whose parts are known, and the slave that it has reached.
use Rattle.std.proofs.Common.{◌≡◌, ℕ, Bool, List, Some, refl}
use Rattle.dp_telegram.specs.declared.frame.Telegram.{Telegram}
use Rattle.dp_telegram.specs.declared.access.Parts.{Parts}
use Rattle.dp_telegram.specs.Access.{address_of, parts_of}
use Rattle.dp_responder.specs.declared.rule.Rule.{Rule}
use Rattle.dp_slave.specs.declared.description.SlaveSpec.{SlaveSpec}
use Rattle.dp_slave.specs.declared.view.SlaveView.{SlaveView}
use Rattle.dp_line.specs.World.{described_at}
use Rattle.explain_events.specs.RequestsAtSlaves.{RequestAtSlaveView}
use Rattle.explain_events.specs.Notes.{note_of}
use Rattle.explain_events.specs.Releases.{release_of}
use Rattle.explain_events.specs.EventContexts.{AskedView, EventContextView}
use Rattle.explain_events.specs.Sentences.{slave_text}
use Rattle.explain_events.specs.Results.{reported_of_parts, reported_of_slave}
use Rattle.explain_events.specs.Shown.{shown_at}

pub parts_reported : (context : EventContextView) (master : ℕ) (octets : List ℕ) (silent : Bool) (rule : Rule) (telegram : Telegram) (parts : Parts) (address : ℕ) → address ≡ address_of telegram.da → Some parts ≡ parts_of telegram
    → reported_of_slave context (record { master = master; octets = octets; telegram = telegram; parts = parts }) address silent rule ≡ reported_of_parts context master octets silent rule telegram (parts_of telegram)
parts_reported context master octets silent rule telegram parts address is found = rw (is, ← found) refl

-- what the slave at an address meets
abbrev pub met_at : EventContextView → AskedView → ℕ → SlaveSpec → SlaveView → RequestAtSlaveView
met_at context asked address description slave = record {
  master = asked.master;
  octets = asked.octets;
  telegram = asked.telegram;
  parts = asked.parts;
  description = description;
  slave = slave;
  noted = note_of context.notes address asked.master;
  release = release_of context.releases address;
}

pub slave_reported : (context : EventContextView) (asked : AskedView) (address : ℕ) (silent : Bool) (rule : Rule) (description : SlaveSpec) (slave : SlaveView)
    → Some description ≡ described_at context.description.slaves address → Some slave ≡ shown_at context.world address
    → slave_text silent (met_at context asked address description slave) rule ≡ reported_of_slave context asked address silent rule
slave_reported context asked address silent rule description slave found here = rw (← found, ← here) refl
