-- detail
-- The facts of a request to which nobody replies, by a rule that concerns the line (own).
use Rattle.std.specs.Prelude.{ℕ, ◌==◌, if◌then◌else◌, List, Option, Some, None}
use Rattle.std.specs.List.{list_any}
use Rattle.std.specs.Option.{option_and_then}
use Rattle.dp_telegram.specs.declared.frame.Frame.{Frame}
use Rattle.dp_telegram.specs.declared.frame.Telegram.{Telegram}
use Rattle.dp_telegram.specs.Access.{address_of, source_of}
use Rattle.dp_responder.specs.declared.rule.Rule.{Rule}
use Rattle.dp_responder.specs.declared.rule.Rule.TheVariants as rules
use Rattle.dp_line.specs.Hearing.{telegram_of_frame}
use Rattle.dp_line.specs.Verdict.{is_fdl_status}
use Rattle.explain_events.specs.declared.line_reasons.LineReason.{LineReason}
use Rattle.explain_events.specs.declared.line_reasons.LineReason.TheVariants as reasons

-- NoStation: a telegram to a master of the line, or to an address that no station has. An FDL status request to such an address looks for new
-- stations (IEC 61158-4-3, request FDL status)
abbrev pub no_station_reason : List ℕ → Option Telegram → LineReason
no_station_reason masters None = reasons.NoStation
no_station_reason masters (Some telegram) =
    if list_any (λ master. master == address_of telegram.da) masters then reasons.MasterStation (address_of telegram.da)
    else if is_fdl_status telegram then reasons.LiveListPoll
    else reasons.NoStation

-- by the masters of the line, the sender and its frame; a rule that concerns a slave has no fact here
abbrev pub line_reason_of : List ℕ → ℕ → Option Frame → Rule → Option LineReason
line_reason_of masters master frame rules.Halted = Some reasons.Halted
line_reason_of masters master frame rules.NoFrame = Some reasons.NoFrame
line_reason_of masters master frame rules.NoMaster = Some (reasons.NoMaster master)
line_reason_of masters master frame rules.ForeignSender = Some (reasons.ForeignSender (option_and_then source_of frame))
line_reason_of masters master frame rules.Token = Some reasons.Token
line_reason_of masters master frame rules.NotRequest = Some reasons.NotRequest
line_reason_of masters master frame rules.BadFunction = Some reasons.BadFunction
line_reason_of masters master frame rules.BadExtension = Some reasons.BadExtension
line_reason_of masters master frame rules.BadBroadcast = Some reasons.BadBroadcast
line_reason_of masters master frame rules.NoStation = Some (no_station_reason masters (option_and_then telegram_of_frame frame))
line_reason_of masters master frame other = None
