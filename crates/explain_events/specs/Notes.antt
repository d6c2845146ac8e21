-- detail
-- The requests whose replies the slaves remember: the entry and the octets of each (own).
use Rattle.std.specs.Prelude.{ℕ, ◌==◌, ◌&&◌, if◌then◌else◌, Bool, true, false, List, [], ◌∷◌, map, find, Option, Some, None}
use Rattle.std.specs.List.{flat_map}
use Rattle.std.specs.Option.{option_map_or}
use Rattle.arrayvec.specs.ArrayVec.{ArrayVec}
use Rattle.dp_telegram.specs.declared.frame.Telegram.{Telegram}
use Rattle.dp_telegram.specs.Access.{address_of}
use Rattle.dp_telegram.specs.FunctionCode.{function_of, asks_srd}
use Rattle.dp_cfg.specs.Choosing.{same_octets}
use Rattle.dp_responder.specs.declared.rule.Rule.{Rule}
use Rattle.dp_responder.specs.declared.rule.Rule.TheVariants as rules
use Rattle.dp_line.specs.declared.event.Event.{Event}
use Rattle.dp_line.specs.declared.event.Event.TheVariants.{Request}
use Rattle.dp_line.specs.declared.event.Outcome.{Outcome}
use Rattle.dp_line.specs.declared.event.Outcome.TheVariants.{Reply}
use Rattle.dp_line.specs.Hearing.{telegram_spelt}
use Rattle.explain_events.specs.declared.notes.Noted.{Noted}

-- ---- at first

-- no request is noted for a slave and a master
abbrev pub unnoted : ℕ → ℕ → Noted
unnoted slave master = record { slave = slave; master = master; place = 0; octets = record { items = [] } }

-- at first no request is noted for any slave and master
abbrev pub first_notes : List ℕ → List ℕ → List Noted
first_notes slaves masters = flat_map (λ slave. map (unnoted slave) masters) slaves

-- ---- the note for a slave and a master

abbrev pub is_note_of : ℕ → ℕ → Noted → Bool
is_note_of slave master noted = noted.slave == slave && noted.master == master

-- the last request of the master that the slave judged and replied to, other than by a repeat
abbrev pub note_of : List Noted → ℕ → ℕ → Option Noted
note_of notes slave master = find (is_note_of slave master) notes

-- the place of a noted request; 0 if there is none
abbrev pub place_of_note : Option Noted → ℕ
place_of_note noted = option_map_or (λ noted. noted.place) noted 0

abbrev pub place_noted : List Noted → ℕ → ℕ → ℕ
place_noted notes slave master = place_of_note (note_of notes slave master)

-- these are the octets of the noted request
abbrev pub has_octets : Option Noted → List ℕ → Bool
has_octets None octets = false
has_octets (Some noted) octets = same_octets noted.octets.items octets

-- ---- after an event

-- the first note for the slave and the master has this request; all others are unchanged
abbrev pub noted_at : ℕ → ℕ → ℕ → ArrayVec ℕ → List Noted → List Noted
noted_at slave master place octets [] = []
noted_at slave master place octets (noted ∷ others) =
    if is_note_of slave master noted then record noted { place = place; octets = octets } ∷ others
    else noted ∷ noted_at slave master place octets others

-- an SRD that is no repeat leaves its reply, whatever its rule; a repeat leaves the memory unchanged (IEC 61158-4-3, frame count bit; own
-- in detail). After the memory is emptied no repeat follows, so the note doesn't matter
abbrev pub is_judged_anew : Rule → Bool
is_judged_anew rules.Repeat = false
is_judged_anew other = true

abbrev pub noted_telegram : List Noted → ℕ → ℕ → ArrayVec ℕ → Rule → Option Telegram → List Noted
noted_telegram notes place master octets rule None = notes
noted_telegram notes place master octets rule (Some telegram) =
    if is_judged_anew rule && asks_srd (function_of telegram.fc) then noted_at (address_of telegram.da) master place octets notes else notes

abbrev pub notes_after : List Noted → ℕ → Event → Outcome → List Noted
notes_after notes place (Request master octets) (Reply reply rule) = noted_telegram notes place master octets rule (telegram_spelt octets.items)
notes_after notes place event outcome = notes
