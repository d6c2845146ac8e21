-- detail
-- The entry of a master that an event of a line and its outcome are: what the rules read of them.
use Rattle.std.specs.Prelude.{ℕ, ◌*◌, ◌%◌, ◌==◌, ◌&&◌, ◌||◌, not, nat_le, nat_lt, if◌then◌else◌, Bool, true, false, List, length, slice_index, Option, Some, None}
use Rattle.std.specs.List.{list_all}
use Rattle.dp_telegram.specs.declared.access.Parts.{Parts}
use Rattle.dp_telegram.specs.declared.frame.Frame.{Frame}
use Rattle.dp_telegram.specs.declared.frame.Frame.TheVariants as frames
use Rattle.dp_telegram.specs.declared.frame.Telegram.{Telegram}
use Rattle.dp_telegram.specs.Access.{address_of, is_station, parts_of}
use Rattle.dp_telegram.specs.FrameText.{frame_of}
use Rattle.dp_telegram.specs.FunctionCode.{data_high, frame_count_bit, frame_count_is_valid, function_of, is_request, is_set}
use Rattle.arrayvec.specs.ArrayVec.{ArrayVec}
use Rattle.dp_responder.specs.declared.rule.Rule.{Rule}
use Rattle.dp_responder.specs.declared.rule.Rule.TheVariants as rules
use Rattle.dp_line.specs.declared.event.Event.{Event}
use Rattle.dp_line.specs.declared.event.Event.TheVariants as events
use Rattle.dp_line.specs.declared.event.Outcome.{Outcome}
use Rattle.dp_line.specs.declared.event.Outcome.TheVariants as outcomes
use Rattle.dp_line.specs.Hearing.{telegram_spelt}
use Rattle.judge_rules.specs.declared.entry.Answer.{Answer}
use Rattle.judge_rules.specs.declared.entry.Answer.TheVariants as answers
use Rattle.judge_rules.specs.declared.entry.Asked.{Asked}
use Rattle.judge_rules.specs.declared.entry.Asked.TheVariants as asks
use Rattle.judge_rules.specs.declared.entry.Control.{Control}
use Rattle.judge_rules.specs.declared.entry.Payload.{Payload}
use Rattle.judge_rules.specs.declared.entry.Diagnosis.{Diagnosis}
use Rattle.judge_rules.specs.declared.entry.Entry.{Entry}
use Rattle.judge_rules.specs.declared.entry.Entry.TheVariants as entries
use Rattle.judge_rules.specs.declared.entry.Parameters.{Parameters}
use Rattle.judge_rules.specs.declared.entry.Request.{Request}
use Rattle.judge_rules.specs.declared.entry.Service.{Service}
use Rattle.judge_rules.specs.declared.entry.Service.TheVariants as services

-- ---- what a request asks for

-- Control_Command and Group_Select (IEC 61158-6-3, Global_Control request)
abbrev pub control_of : ℕ → ℕ → Control
control_of octet groups = record {
  clear = is_set 1 octet;
  unfreeze = is_set 2 octet;
  freeze = is_set 3 octet;
  unsync = is_set 4 octet;
  sync = is_set 5 octet;
  reserved = is_set 0 octet || is_set 6 octet || is_set 7 octet;
  is_to_all_groups = groups == 0;
}

-- the octets of Set_Prm (IEC 61158-6-3, Set_Prm request): octet 1 has Lock_Req (bit 7), Unlock_Req, Sync_Req, Freeze_Req and WD_On (bit 3), and its
-- bits 0 to 2 are reserved; 2 and 3 are the factors of the watchdog, 4 is min TSDR
abbrev pub asked_in : List ℕ → Asked
asked_in payload =
    if nat_lt (length payload) 7 then asks.Short
    else if is_set 6 (slice_index payload 0) then asks.Unlock
    else if is_set 7 (slice_index payload 0) then asks.Lock
    else asks.MinTsdr

-- the watchdog time is the product of the factors; with a factor 0 no watchdog runs, since the slave refuses the parameters
abbrev pub watchdog_by_factors : ℕ → Option ℕ
watchdog_by_factors product = if product == 0 then None else Some product

abbrev pub watchdog_in : List ℕ → Option ℕ
watchdog_in payload = if is_set 3 (slice_index payload 0) then watchdog_by_factors (slice_index payload 1 * slice_index payload 2) else None

abbrev pub has_zero_factor : List ℕ → Bool
has_zero_factor payload = is_set 3 (slice_index payload 0) && (slice_index payload 1 == 0 || slice_index payload 2 == 0)

abbrev pub parameters_in : List ℕ → Parameters
parameters_in payload = record {
  asked = asked_in payload;
  min_tsdr = slice_index payload 3;
  watchdog = watchdog_in payload;
  has_zero_factor = has_zero_factor payload;
  freeze = is_set 4 (slice_index payload 0);
  sync = is_set 5 (slice_index payload 0);
  locks_and_unlocks = is_set 6 (slice_index payload 0) && is_set 7 (slice_index payload 0);
  reserved = is_set 0 (slice_index payload 0) || is_set 1 (slice_index payload 0) || is_set 2 (slice_index payload 0);
}

-- the service of a point that DP-V0 has; no simulated slave has 54 and 55 (IEC 61158-6-3, service access points)
abbrev pub service_at : ℕ → List ℕ → Service
service_at point payload =
    if point == 54 then services.MasterToMaster
    else if point == 55 then services.SetSlaveAdd
    else if point == 56 then services.RdInp
    else if point == 57 then services.RdOutp
    else if point == 58 then services.GlobalControl (control_of (slice_index payload 0) (slice_index payload 1))
    else if point == 59 then services.GetCfg
    else if point == 60 then services.SlaveDiag
    else if point == 61 then services.SetPrm (parameters_in payload)
    else if point == 62 then services.ChkCfg
    else services.Unknown

abbrev pub service_of : Option ℕ → List ℕ → Service
service_of None payload = services.DataExchange
service_of (Some point) payload = service_at point payload

-- the octets begin with a point of a slave and that of a master, as a telegram that names points without the bits that announce them
abbrev pub has_points : List ℕ → Bool
has_points payload = nat_le 55 (slice_index payload 0) && nat_le (slice_index payload 0) 62 && slice_index payload 1 == 62

abbrev pub payload_of : List ℕ → Payload
payload_of payload = record { count = length payload; is_zero = list_all (λ octet. octet == 0) payload; has_points = has_points payload }

-- ---- the answer

abbrev pub is_not_selected : Rule → Bool
is_not_selected rules.NotSelected = true
is_not_selected other = false

-- there is a slave, and each answers that it is not selected
abbrev pub none_selected : List (ℕ × Rule) → Bool
none_selected pairs = not (length pairs == 0) && list_all (λ pair. is_not_selected pair.1) pairs

abbrev pub silence_by : Rule → Answer
silence_by rule = if is_not_selected rule then answers.NoneSelected else answers.Silence

-- the octets of a diagnosis (IEC 61158-6-3, Slave_Diag response): Station_status_1 and 2, and Master_Add
abbrev pub diagnosis_of : ℕ → List ℕ → Diagnosis
diagnosis_of master octets = record {
  is_of_other = not (slice_index octets 3 == 255) && not (slice_index octets 3 == master);
  needs_parameters = is_set 0 (slice_index octets 1);
  is_ready = not (is_set 1 (slice_index octets 0));
}

abbrev pub diagnosis_in_parts : ℕ → Option Parts → Answer
diagnosis_in_parts master (Some parts) = answers.Diagnosis (diagnosis_of master parts.payload.items)
diagnosis_in_parts master None = answers.Done

abbrev pub diagnosis_in_telegram : ℕ → Option Telegram → Answer
diagnosis_in_telegram master (Some telegram) = diagnosis_in_parts master (parts_of telegram)
diagnosis_in_telegram master None = answers.Done

abbrev pub diagnosis_answer : ℕ → List ℕ → Answer
diagnosis_answer master octets = diagnosis_in_telegram master (telegram_spelt octets)

abbrev pub has_dh : Option Telegram → Bool
has_dh (Some telegram) = telegram.fc % 16 == data_high
has_dh None = false

abbrev pub is_dh_reply : List ℕ → Bool
is_dh_reply octets = has_dh (telegram_spelt octets)

abbrev pub answer_done : ℕ → Service → List ℕ → Answer
answer_done master services.DataExchange octets = if is_dh_reply octets then answers.Dh else answers.Done
answer_done master services.SlaveDiag octets = diagnosis_answer master octets
answer_done master other octets = answers.Done

-- RR for Busy, UE for Length, RS for every other refusal; the rules that get no reply have none
abbrev pub reply_by : ℕ → Service → List ℕ → Rule → Answer
reply_by master service octets rules.Done = answer_done master service octets
reply_by master service octets rules.Status = answers.Done
reply_by master service octets rules.Repeat = answers.Repeat
reply_by master service octets rules.Busy = answers.Rr
reply_by master service octets rules.Length = answers.Ue
reply_by master service octets rules.NoService = answers.Rs
reply_by master service octets rules.NotActive = answers.Rs
reply_by master service octets rules.NotHolder = answers.Rs
reply_by master service octets rules.NotListed = answers.Rs
reply_by master service octets other = answers.Silence

abbrev pub answer_of : ℕ → Service → Outcome → Answer
answer_of master service (outcomes.Reply octets rule) = reply_by master service octets.items rule
answer_of master service (outcomes.Silence rule) = silence_by rule
answer_of master service (outcomes.Spread pairs) = if none_selected pairs.items then answers.NoneSelected else answers.Silence
answer_of master service other = answers.Silence

-- ---- the entry

abbrev pub request_of : ℕ → ArrayVec ℕ → Outcome → ℕ → Telegram → Parts → Request
request_of master octets outcome time telegram parts = record {
  address = address_of telegram.da;
  function = function_of telegram.fc;
  fcb = frame_count_bit telegram.fc;
  fcv = frame_count_is_valid telegram.fc;
  service = service_of parts.dsap parts.payload.items;
  ssap = parts.ssap;
  payload = payload_of parts.payload.items;
  octets = octets;
  time = time;
  answer = answer_of master (service_of parts.dsap parts.payload.items) outcome;
}

abbrev pub entry_of_parts : ℕ → ArrayVec ℕ → Outcome → ℕ → Telegram → Option Parts → Entry
entry_of_parts master octets outcome time telegram (Some parts) = entries.Request (request_of master octets outcome time telegram parts)
entry_of_parts master octets outcome time telegram None = entries.Stray

-- a telegram is a request of the master if bit 6 of FC is set, and its source is the master
abbrev pub entry_of_telegram : ℕ → ArrayVec ℕ → Outcome → ℕ → Telegram → Entry
entry_of_telegram master octets outcome time telegram =
    if not (is_request telegram.fc) || not (address_of telegram.sa == master) then entries.Stray
    else entry_of_parts master octets outcome time telegram (parts_of telegram)

-- a token is passed on if its source is the master and its destination a station (IEC 61158-4-3, token passing): in a ring of one, the master itself
abbrev pub is_passed_on : ℕ → ℕ → ℕ → Bool
is_passed_on master da sa = address_of sa == master && is_station (address_of da)

abbrev pub entry_of_token : ℕ → ℕ → ℕ → Entry
entry_of_token master da sa = if is_passed_on master da sa then entries.PassedToken (address_of da) else entries.Stray

abbrev pub entry_of_frame : ℕ → ArrayVec ℕ → Outcome → ℕ → Option Frame → Entry
entry_of_frame master octets outcome time (Some (frames.Token da sa)) = entry_of_token master da sa
entry_of_frame master octets outcome time (Some (frames.Telegram telegram)) = entry_of_telegram master octets outcome time telegram
entry_of_frame master octets outcome time other = entries.Stray

-- the master of an event, and its entry; an operator has none
abbrev pub entry_read : Event → Outcome → ℕ → Option (ℕ × Entry)
entry_read (events.Request master octets) outcome time = Some (master, entry_of_frame master octets outcome time (frame_of octets.items))
entry_read (events.Operator op) outcome time = None
