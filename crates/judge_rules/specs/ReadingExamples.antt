-- helper
-- Examples of the entry that octets of master 1 are. Each holds by computation.
use Rattle.std.specs.Prelude.{◌≡◌, ℕ, List, [], ◌∷◌, None, Some, refl}
use Rattle.dp_responder.specs.declared.rule.Rule.TheVariants as outcome_rules
use Rattle.dp_line.specs.declared.event.Outcome.TheVariants as outcomes
use Rattle.dp_telegram.specs.FrameText.{frame_of}
use Rattle.judge_rules.specs.declared.entry.Entry.{Entry}
use Rattle.judge_rules.specs.declared.entry.Entry.TheVariants as entries
use Rattle.judge_rules.specs.declared.entry.Service.TheVariants as services
use Rattle.judge_rules.specs.Reading.{entry_of_frame, service_of, watchdog_in}

-- octets of master 1 that nobody answers
abbrev pub entry_of : List ℕ → Entry
entry_of octets = entry_of_frame 1 (record { items = octets }) (outcomes.Silence outcome_rules.Token) 0 (frame_of octets)

-- tokens: to another station, to itself, of another master, to all stations
pub token_to_2 : entry_of (0xDC ∷ 2 ∷ 1 ∷ []) ≡ entries.PassedToken 2
token_to_2 = refl

pub token_to_itself : entry_of (0xDC ∷ 1 ∷ 1 ∷ []) ≡ entries.PassedToken 1
token_to_itself = refl

pub token_of_2 : entry_of (0xDC ∷ 1 ∷ 2 ∷ []) ≡ entries.Stray
token_of_2 = refl

pub token_to_127 : entry_of (0xDC ∷ 127 ∷ 1 ∷ []) ≡ entries.Stray
token_to_127 = refl

pub short_acknowledgement : entry_of (0xE5 ∷ []) ≡ entries.Stray
short_acknowledgement = refl

-- points of DP-V0, and one of DP-V1
pub point_54 : service_of (Some 54) [] ≡ services.MasterToMaster
point_54 = refl

pub point_55 : service_of (Some 55) [] ≡ services.SetSlaveAdd
point_55 = refl

pub point_51 : service_of (Some 51) [] ≡ services.Unknown
point_51 = refl

pub default_point : service_of None [] ≡ services.DataExchange
default_point = refl

-- the watchdog of a Set_Prm: 2 times 5 units of 10 ms; none without WD_On, or with a factor 0
pub watchdog_of_100_ms : watchdog_in (0x88 ∷ 2 ∷ 5 ∷ []) ≡ Some 10
watchdog_of_100_ms = refl

pub without_wd_on : watchdog_in (0x80 ∷ 2 ∷ 5 ∷ []) ≡ None
without_wd_on = refl

pub factor_0 : watchdog_in (0x88 ∷ 2 ∷ 0 ∷ []) ≡ None
factor_0 = refl
