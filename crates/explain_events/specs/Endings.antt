-- detail
-- How a hold ended (own).
use Rattle.std.specs.Prelude.{codes, ℕ, ◌&&◌, not, if◌then◌else◌, List, Option, Some, None}
use Rattle.dp_telegram.specs.declared.frame.Telegram.{Telegram}
use Rattle.dp_telegram.specs.declared.access.Parts.{Parts}
use Rattle.dp_telegram.specs.Access.{parts_of}
use Rattle.dp_sap.specs.AccessTable.{same_point, chk_cfg}
use Rattle.dp_prm.specs.Meaning.{is_short, unlock_req}
use Rattle.dp_line.specs.declared.event.Event.{Event}
use Rattle.dp_line.specs.declared.event.Event.TheVariants.{Request, Operator}
use Rattle.dp_line.specs.Events.{is_halt}
use Rattle.dp_line.specs.Hearing.{telegram_spelt}
use Rattle.explain_events.specs.declared.ending.Ending.{Ending}
use Rattle.explain_events.specs.declared.ending.Ending.TheVariants as endings

-- how a request ended a hold: by a wrong Chk_Cfg, or by a Set_Prm that unlocked the slave or was wrong
abbrev pub ending_by_parts : Option Parts → Ending
ending_by_parts None = endings.WrongParameters
ending_by_parts (Some parts) =
    if same_point parts.dsap chk_cfg then endings.WrongConfiguration
    else if not (is_short parts.payload.items) && unlock_req parts.payload.items then endings.Unlocked
    else endings.WrongParameters

abbrev pub ending_by_telegram : Option Telegram → Ending
ending_by_telegram None = endings.WrongParameters
ending_by_telegram (Some telegram) = ending_by_parts (parts_of telegram)

abbrev pub ending_by : Event → Ending
ending_by (Request master octets) = ending_by_telegram (telegram_spelt octets.items)
ending_by (Operator op) = if is_halt (Operator op) then endings.Halted else endings.Watchdog

abbrev pub ending_text : Ending → List ℕ
ending_text endings.WrongConfiguration = codes "wrong configuration"
ending_text endings.WrongParameters = codes "wrong parameters"
ending_text endings.Unlocked = codes "unlocked"
ending_text endings.Halted = codes "the line halted"
ending_text endings.Watchdog = codes "its watchdog ran out"
ending_text endings.Lasts = codes "to the end"
