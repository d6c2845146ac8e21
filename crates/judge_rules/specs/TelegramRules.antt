-- promise
-- The rules of a telegram on its own (IEC 61158-4-3, function code of a request; IEC 61158-6-3, service access points).
use Rattle.std.specs.Prelude.{◌==◌, ◌&&◌, ◌||◌, not, Bool, true, false, Option, Some, None, ℕ}
use Rattle.dp_telegram.specs.Access.{global_address}
use Rattle.dp_telegram.specs.declared.function_code.Function.{Function}
use Rattle.dp_telegram.specs.declared.function_code.Function.TheVariants as functions
use Rattle.dp_telegram.specs.FunctionCode.{asks_sdn}
use Rattle.judge_rules.specs.declared.entry.Request.{Request}
use Rattle.judge_rules.specs.declared.entry.Service.{Service}
use Rattle.judge_rules.specs.declared.entry.Service.TheVariants as services
use Rattle.judge_rules.specs.Entries.{is_srd}

-- every service of DP-V0 but Global_Control has a reply; of those between masters some have none
abbrev pub has_reply : Service → Bool
has_reply (services.GlobalControl control) = false
has_reply services.MasterToMaster = false
has_reply services.Unknown = false
has_reply other = true

-- sdn-needs-reply: SDN, which has no reply, to the point of a service that has one
abbrev pub sdn_needs_reply : Request → Bool
sdn_needs_reply request = asks_sdn request.function && has_reply request.service

-- broadcast-needs-reply: a function that has a reply, to all stations; whether a reserved one has a reply is not known
abbrev pub is_answered_function : Function → Bool
is_answered_function functions.SdnLow = false
is_answered_function functions.SdnHigh = false
is_answered_function functions.Reserved = false
is_answered_function other = true

abbrev pub broadcast_needs_reply : Request → Bool
broadcast_needs_reply request = request.address == global_address && is_answered_function request.function

-- sda-not-allowed: SDA, since DP maps its services on SRD and SDN only
abbrev pub is_sda : Function → Bool
is_sda functions.SdaLow = true
is_sda functions.SdaHigh = true
is_sda other = false

abbrev pub sda_not_allowed : Request → Bool
sda_not_allowed request = is_sda request.function

-- unknown-point: an SRD or an SDN to a point that DP-V0 does not have
abbrev pub is_unknown : Service → Bool
is_unknown services.Unknown = true
is_unknown other = false

abbrev pub unknown_point : Request → Bool
unknown_point request = (is_srd request || asks_sdn request.function) && is_unknown request.service

-- source-point: an SRD or an SDN that names a point from 55 to 62, and whose SSAP is not 62; the functions between masters have other ones
abbrev pub is_asked_by_62 : Service → Bool
is_asked_by_62 services.DataExchange = false
is_asked_by_62 services.MasterToMaster = false
is_asked_by_62 services.Unknown = false
is_asked_by_62 other = true

abbrev pub is_point_62 : Option ℕ → Bool
is_point_62 None = false
is_point_62 (Some point) = point == 62

abbrev pub source_point : Request → Bool
source_point request =
    (is_srd request || asks_sdn request.function) && is_asked_by_62 request.service && not (is_point_62 request.ssap)

-- octets-not-allowed: data in an SRD for a service whose request has none
abbrev pub has_no_data : Service → Bool
has_no_data services.SlaveDiag = true
has_no_data services.GetCfg = true
has_no_data services.RdInp = true
has_no_data services.RdOutp = true
has_no_data other = false

abbrev pub octets_not_allowed : Request → Bool
octets_not_allowed request = is_srd request && has_no_data request.service && not (request.payload.count == 0)

-- control-with-srd: an SRD to one station that names the point of Global_Control; one to all stations is broadcast-needs-reply
abbrev pub is_global_control : Service → Bool
is_global_control (services.GlobalControl control) = true
is_global_control other = false

abbrev pub control_with_srd : Request → Bool
control_with_srd request = is_srd request && not (request.address == global_address) && is_global_control request.service
