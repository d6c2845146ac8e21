-- detail
-- The reason why a request was answered as it was: one sentence for each rule (own).
use Rattle.std.specs.Prelude.{codes, ℕ, Bool, true, false, List, [], ◌++◌, Option, Some, None}
use Rattle.std.specs.Fmt.{decimal}
use Rattle.dp_telegram.specs.declared.frame.Frame.{Frame}
use Rattle.dp_responder.specs.declared.rule.Rule.{Rule}
use Rattle.explain_events.specs.RequestsAtSlaves.{RequestAtSlaveView}
use Rattle.explain_events.specs.Words.{numbers_words}
use Rattle.explain_events.specs.declared.line_reasons.LineReason.{LineReason}
use Rattle.explain_events.specs.declared.line_reasons.LineReason.TheVariants as line_reasons
use Rattle.explain_events.specs.LineReasons.{line_reason_of}
use Rattle.explain_events.specs.declared.reason.Reason.{Reason}
use Rattle.explain_events.specs.declared.reason.Reason.TheVariants as reasons
use Rattle.explain_events.specs.Reasons.{reason_of}
use Rattle.explain_events.specs.Refusals.{no_point_text, point_off_text, not_holder_text, not_listed_text, no_service_text, busy_text, length_text, not_selected_text, repeat_words, status_text}
use Rattle.explain_events.specs.DoneWords.{done_words}

-- ---- the rules that concern the line, and no slave

abbrev pub station_words : Option ℕ → List ℕ
station_words None = codes "no station"
station_words (Some address) = codes "station " ++ decimal address

abbrev pub no_master_text : ℕ → List ℕ → List ℕ
no_master_text master masters = codes "Master " ++ decimal master ++ codes " is none of the line's (" ++ numbers_words masters ++ codes ")."

-- the reason why nobody replies, with the masters of the line
abbrev pub line_reason_text : List ℕ → LineReason → List ℕ
line_reason_text masters line_reasons.Halted = codes "silence: Halted. The line takes no more."
line_reason_text masters line_reasons.NoFrame = codes "silence: NoFrame. The octets are no single frame."
line_reason_text masters (line_reasons.NoMaster master) = codes "silence: NoMaster. " ++ no_master_text master masters
line_reason_text masters (line_reasons.ForeignSender station) =
    codes "silence: ForeignSender. The frame is from " ++ station_words station ++ codes "."
line_reason_text masters line_reasons.Token = codes "silence: Token. A token asks for nothing."
line_reason_text masters line_reasons.NotRequest = codes "silence: NotRequest. A response asks for nothing."
line_reason_text masters line_reasons.BadFunction = codes "silence: BadFunction. The function is reserved."
line_reason_text masters line_reasons.BadExtension = codes "silence: BadExtension. An extension octet is missing or not plain."
line_reason_text masters line_reasons.BadBroadcast = codes "silence: BadBroadcast. Only a Global_Control goes to all slaves."
line_reason_text masters line_reasons.NoStation = codes "silence: NoStation. No slave has this address."
line_reason_text masters (line_reasons.MasterStation address) =
    codes "silence: NoStation. Station " ++ decimal address ++ codes " is a master of the line."
line_reason_text masters line_reasons.LiveListPoll = codes "silence: NoStation. No such station."

-- a rule that concerns a slave has no sentence here
abbrev pub line_reason_text_if_any : List ℕ → Option LineReason → List ℕ
line_reason_text_if_any masters None = []
line_reason_text_if_any masters (Some reason) = line_reason_text masters reason

abbrev pub line_text : List ℕ → ℕ → Option Frame → Rule → List ℕ
line_text masters master frame rule = line_reason_text_if_any masters (line_reason_of masters master frame rule)

-- ---- the rules that concern a slave

-- a refusal, which the slave sends in a reply or makes in silence, as for an SDN
abbrev pub refused_words : Bool → List ℕ
refused_words true = codes "refused in silence"
refused_words false = codes "refused"

-- the answer of a slave, by its facts
abbrev pub reason_text : Bool → RequestAtSlaveView → Reason → List ℕ
reason_text silent at_slave (reasons.Status address state) = codes "answered: Status. " ++ status_text address state
reason_text silent at_slave (reasons.NoService takes point) = refused_words silent ++ codes ": NoService. " ++ no_service_text takes point
reason_text silent at_slave (reasons.Repeat repeat) = repeat_words repeat at_slave.parts.payload.items
reason_text silent at_slave (reasons.NoPoint address point) = refused_words silent ++ codes ": NotActive. " ++ no_point_text address point
reason_text silent at_slave (reasons.PointOff address state since point) =
    refused_words silent ++ codes ": NotActive. " ++ point_off_text address state since point
reason_text silent at_slave (reasons.NotHolder address holder since) =
    refused_words silent ++ codes ": NotHolder. " ++ not_holder_text address holder since
reason_text silent at_slave (reasons.NotListed master list) =
    refused_words silent ++ codes ": NotListed. " ++ not_listed_text master list at_slave.description.lists
reason_text silent at_slave (reasons.Busy point) = refused_words silent ++ codes ": Busy. " ++ busy_text point
reason_text silent at_slave (reasons.Length sent takes) = refused_words silent ++ codes ": Length. " ++ length_text sent takes
reason_text silent at_slave (reasons.NotSelected address select group) = codes "silence: NotSelected. " ++ not_selected_text address select group
reason_text silent at_slave (reasons.Done done) = done_words at_slave done

-- a rule that concerns no slave has no sentence here
abbrev pub reason_text_if_any : Bool → RequestAtSlaveView → Option Reason → List ℕ
reason_text_if_any silent at_slave None = []
reason_text_if_any silent at_slave (Some reason) = reason_text silent at_slave reason

abbrev pub slave_text : Bool → RequestAtSlaveView → Rule → List ℕ
slave_text silent at_slave rule = reason_text_if_any silent at_slave (reason_of at_slave rule)
