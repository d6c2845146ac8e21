-- detail
-- A reply in words, as one row with its label (IEC 61158-4-3, response telegrams).
use Rattle.std.specs.Prelude.{codes, ℕ, ◌==◌, not, Bool, false, if◌then◌else◌, List, [], ◌∷◌, ◌++◌, Option, Some, None, option_and_then, unwrap_or}
use Rattle.dp_telegram.specs.declared.access.Parts.{Parts}
use Rattle.dp_telegram.specs.declared.frame.Frame.{Frame}
use Rattle.dp_telegram.specs.declared.frame.Frame.TheVariants as frames
use Rattle.dp_telegram.specs.declared.frame.Telegram.{Telegram}
use Rattle.dp_telegram.specs.Access.{parts_of}
use Rattle.dp_telegram.specs.FrameText.{frame_of}
use Rattle.dp_telegram.specs.FunctionCode.{ok, user_error, no_resource, not_activated, data_low, data_high}
use Rattle.dp_sap.specs.AccessTable.{same_point, data_exchange, rd_inp, rd_outp, get_cfg, slave_diag}
use Rattle.explain_octets.specs.Words.{hex_pair, hex_text}
use Rattle.explain_octets.specs.Points.{point_text}
use Rattle.explain_octets.specs.Configurations.{configuration_text}
use Rattle.explain_octets.specs.Diagnoses.{diagnosis_words}

-- the label of data that are shown in hex, by the point that sends them
abbrev pub label_from : Option ℕ → List ℕ
label_from point =
    if same_point point data_exchange then codes "inputs "
    else if same_point point rd_inp then codes "inputs "
    else if same_point point rd_outp then codes "outputs "
    else codes "data "

-- the data of a reply, by the point that sends them (IEC 61158-6-3, service access points)
abbrev pub answer_text : Option ℕ → List ℕ → List ℕ
answer_text point octets =
    if same_point point get_cfg then configuration_text octets
    else if same_point point slave_diag then diagnosis_words octets
    else label_from point ++ hex_text octets

abbrev pub data_text : Option ℕ → List ℕ → List ℕ
data_text point [] = codes "no data"
data_text point (octet ∷ octets) = answer_text point (octet ∷ octets)

-- a reply comes from the point that was asked; a remembered one may come from another point, which an earlier request asked (own)
abbrev pub is_earlier : Option Parts → Option Parts → Bool
is_earlier None sent = false
is_earlier (Some asked) None = false
is_earlier (Some asked) (Some sent) = not (same_point asked.dsap sent.ssap)

abbrev pub earlier_text : Bool → Option ℕ → List ℕ
earlier_text earlier point = if earlier then codes "to an earlier " ++ point_text point ++ codes ": " else []

-- the data after the access points; the SSAP is the point that sends them
unfoldable pub sent_text : Bool → Option Parts → List ℕ
sent_text earlier None = codes "extension missing or not plain"
sent_text earlier (Some sent) = earlier_text earlier sent.ssap ++ data_text sent.ssap sent.payload.items

-- a response without data, by its function code; OK is the reply to an FDL status
abbrev pub plain_text : ℕ → Option (List ℕ)
plain_text fc =
    if fc == ok then Some (codes "slave station")
    else if fc == user_error then Some (codes "UE, user error")
    else if fc == no_resource then Some (codes "RR, no resource")
    else if fc == not_activated then Some (codes "RS, not activated")
    else None

-- the words before the data of a response, by its function code: high priority means that a diagnosis is due
abbrev pub data_front : ℕ → Option (List ℕ)
data_front fc = if fc == data_low then Some [] else if fc == data_high then Some (codes "a diagnosis is due; ") else None

-- a response with data; one with another function code is shown as that code
abbrev pub with_data : Option (List ℕ) → Bool → Telegram → List ℕ
with_data (Some front) earlier telegram = front ++ sent_text earlier (parts_of telegram)
with_data None earlier telegram = codes "FC " ++ hex_pair telegram.fc

unfoldable pub response_text : Bool → Telegram → List ℕ
response_text earlier telegram = unwrap_or (plain_text telegram.fc) (with_data (data_front telegram.fc) earlier telegram)

-- access points and data of octets that are a telegram
abbrev pub frame_parts : Frame → Option Parts
frame_parts (frames.Token da sa) = None
frame_parts frames.Ack = None
frame_parts (frames.Telegram telegram) = parts_of telegram

unfoldable pub parts_in : List ℕ → Option Parts
parts_in octets = option_and_then frame_parts (frame_of octets)

-- a short acknowledgement; it is marked if the slave judges the octets of the request only afterwards (IEC 61158-4-3, short acknowledgement)
abbrev pub acknowledged_text : Bool → List ℕ
acknowledged_text judged_afterwards =
    if judged_afterwards then codes "SC, short acknowledgement (judged afterwards)" else codes "SC, short acknowledgement"

-- the row of a reply: a telegram, or a short acknowledgement if it is None
abbrev pub reply_row : Bool → Bool → Option Telegram → List ℕ
reply_row judged_afterwards earlier None = codes "reply       " ++ acknowledged_text judged_afterwards
reply_row judged_afterwards earlier (Some telegram) = codes "reply       " ++ response_text earlier telegram

-- a frame as a reply to a request; a token is none
abbrev pub frame_reply : Bool → Option Parts → Frame → Option (List ℕ)
frame_reply judged_afterwards asked (frames.Token da sa) = None
frame_reply judged_afterwards asked frames.Ack = Some (reply_row judged_afterwards false None)
frame_reply judged_afterwards asked (frames.Telegram telegram) = Some (reply_row judged_afterwards (is_earlier asked (parts_of telegram)) (Some telegram))

-- a reply to a request, which the slave judges only afterwards or not
unfoldable pub reply_text : Bool → List ℕ → List ℕ → Option (List ℕ)
reply_text judged_afterwards request reply = option_and_then (frame_reply judged_afterwards (parts_in request)) (frame_of reply)
