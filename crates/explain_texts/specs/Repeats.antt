-- detail
-- The request that a repeat repeats, found among the entries before it (own).
use Rattle.std.specs.Prelude.{◌≡◌, ℕ, ◌==◌, ◌&&◌, Bool, true, false, List, ◌∷◌, ◌++◌, Some}
use Rattle.std.specs.List.{AllByRecursion}
use Rattle.std.specs.Option.{option_map_or}
use Rattle.arrayvec.specs.ArrayVec.{ArrayVec}
use Rattle.dp_telegram.specs.declared.frame.Telegram.{Telegram}
use Rattle.dp_telegram.specs.Access.{address_of}
use Rattle.dp_telegram.specs.FunctionCode.{asks_srd, frame_count_bit, function_of}
use Rattle.dp_responder.specs.declared.rule.Rule.{Rule}
use Rattle.dp_line.specs.declared.event.Event.{Event}
use Rattle.dp_line.specs.declared.event.Event.TheVariants.{Request}
use Rattle.dp_line.specs.declared.event.Outcome.{Outcome}
use Rattle.dp_line.specs.declared.event.Outcome.TheVariants.{Reply}
use Rattle.dp_line.specs.Hearing.{telegram_spelt}
use Rattle.dp_audit.specs.declared.entry.Entry.{Entry}
use Rattle.explain_events.specs.Notes.{is_judged_anew}

-- a telegram that is an SRD to the slave
abbrev pub is_srd_to : ℕ → Telegram → Bool
is_srd_to slave telegram = asks_srd (function_of telegram.fc) && address_of telegram.da == slave

-- an SRD of the master to the slave, which the slave judged and replied to, other than by a repeat: it leaves its reply, and a repeat
-- doesn't (IEC 61158-4-3, frame count bit; own in detail)
abbrev pub is_replied_anew : ℕ → ℕ → Event → Outcome → Bool
is_replied_anew slave master (Request sender octets) (Reply reply rule) =
    sender == master && is_judged_anew rule && option_map_or (is_srd_to slave) (telegram_spelt octets.items) false
is_replied_anew slave master event outcome = false

abbrev pub leaves_a_reply : ℕ → ℕ → Entry → Bool
leaves_a_reply slave master entry = is_replied_anew slave master entry.event entry.outcome

-- the last entry that left a reply of the slave to the master has this place and is a request of these octets; its telegram has this FCB, and
-- its reply is this one
pub record IsLastReplied (entries : List Entry) (slave master place : ℕ) (octets : ArrayVec ℕ) (fcb : Bool) (reply : List ℕ) : Type 0 where
  pub front : List Entry
  pub asked : Entry
  pub behind : List Entry
  pub split : entries ≡ front ++ asked ∷ behind
  pub at : asked.place ≡ place
  pub last : AllByRecursion (λ entry. leaves_a_reply slave master entry ≡ false) behind
  pub request : asked.event ≡ Request master octets
  pub telegram : Telegram
  pub spelt : telegram_spelt octets.items ≡ Some telegram
  pub to_slave : is_srd_to slave telegram ≡ true
  pub count_bit : frame_count_bit telegram.fc ≡ fcb
  pub rule : Rule
  pub anew : is_judged_anew rule ≡ true
  pub replied : asked.outcome ≡ Reply (record { items = reply }) rule
