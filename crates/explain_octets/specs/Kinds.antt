-- detail
-- The kind of octets, in words: the frame, the function, and the access point (IEC 61158-4-3, frame formats and function code).
use Rattle.std.specs.Prelude.{codes, ℕ, ◌%◌, ◌==◌, Bool, true, false, if◌then◌else◌, List, [], ◌++◌, Option, Some, None, Result, Ok, Err}
use Rattle.std.specs.Fmt.{decimal}
use Rattle.dp_telegram.specs.declared.access.Parts.{Parts}
use Rattle.dp_telegram.specs.declared.fault.FrameFault.{FrameFault}
use Rattle.dp_telegram.specs.declared.frame.Frame.{Frame}
use Rattle.dp_telegram.specs.declared.frame.Frame.TheVariants as frames
use Rattle.dp_telegram.specs.declared.frame.Telegram.{Telegram}
use Rattle.dp_telegram.specs.declared.function_code.Function.{Function}
use Rattle.dp_telegram.specs.declared.function_code.Function.TheVariants.{SdaLow, SdnLow, SdaHigh, SdnHigh, FdlStatus, SrdLow, SrdHigh, Ident, LsapStatus, Reserved}
use Rattle.dp_telegram.specs.Access.{address_of, parts_of}
use Rattle.dp_telegram.specs.FrameText.{reading_of, delimiter, sd1, sd2}
use Rattle.dp_telegram.specs.FunctionCode.{is_request, function_of, frame_count_bit, frame_count_is_valid}
use Rattle.explain_octets.specs.Points.{access_text}
use Rattle.explain_octets.specs.Faults.{fault_text}

-- the functions by their names; the others are treated as reserved (own)
abbrev pub function_name : Function → Option (List ℕ)
function_name SdaLow = Some (codes "SDA low")
function_name SdnLow = Some (codes "SDN low")
function_name SdaHigh = Some (codes "SDA high")
function_name SdnHigh = Some (codes "SDN high")
function_name FdlStatus = Some (codes "FDL status")
function_name SrdLow = Some (codes "SRD low")
function_name SrdHigh = Some (codes "SRD high")
function_name Ident = Some (codes "ident")
function_name LsapStatus = Some (codes "LSAP status")
function_name Reserved = None

-- a function by its name; a reserved one by its number, bits 3 to 0 of FC
abbrev pub function_text : Option (List ℕ) → ℕ → List ℕ
function_text (Some name) fc = name
function_text None fc = codes "reserved function " ++ decimal (fc % 16)

-- SRD, SDN and SDA use access points and the frame count bit
abbrev pub is_of_point : Function → Bool
is_of_point FdlStatus = false
is_of_point Ident = false
is_of_point LsapStatus = false
is_of_point Reserved = false
is_of_point other = true

abbrev pub bit_text : Bool → List ℕ
bit_text false = codes "0"
bit_text true = codes "1"

abbrev pub count_text : ℕ → List ℕ
count_text fc = codes " FCB " ++ bit_text (frame_count_bit fc) ++ codes " FCV " ++ bit_text (frame_count_is_valid fc)

-- the function of a request, with FCB and FCV if it uses them
unfoldable pub asked_text : ℕ → List ℕ
asked_text fc = function_text (function_name (function_of fc)) fc ++ (if is_of_point (function_of fc) then count_text fc else [])

-- the access points of a request and of its sender; extension octets that are announced must be present
abbrev pub service_text : Bool → Option Parts → List ℕ
service_text of_point None = codes "  extension missing or not plain"
service_text of_point (Some parts) = if of_point then codes "  " ++ access_text parts.dsap parts.ssap else []

unfoldable pub telegram_text : Telegram → List ℕ
telegram_text telegram =
    if is_request telegram.fc then asked_text telegram.fc ++ service_text (is_of_point (function_of telegram.fc)) (parts_of telegram)
    else codes "response"

-- the format of a telegram, by its start delimiter
abbrev pub format_text : ℕ → List ℕ
format_text start = if start == sd1 then codes "SD1" else if start == sd2 then codes "SD2" else codes "SD3"

-- a station that passes the token to itself is alone in the ring (IEC 61158-4-3, token)
abbrev pub ring_text : ℕ → ℕ → List ℕ
ring_text to from = if to == from then codes ", alone in the ring" else []

abbrev pub token_text : ℕ → ℕ → List ℕ
token_text to from = codes "SD4 token to " ++ decimal to ++ codes " from " ++ decimal from ++ ring_text to from

-- a frame; a telegram has this start delimiter
abbrev pub frame_text : ℕ → Frame → List ℕ
frame_text start (frames.Token da sa) = token_text (address_of da) (address_of sa)
frame_text start frames.Ack = codes "SC short acknowledgement"
frame_text start (frames.Telegram telegram) = format_text start ++ codes " " ++ telegram_text telegram

-- octets by their frame, or by the fault that they have
abbrev pub reading_text : Result Frame FrameFault → List ℕ → List ℕ
reading_text (Ok frame) octets = frame_text (delimiter octets) frame
reading_text (Err fault) octets = fault_text fault octets

-- the kind of octets
unfoldable pub kind_text : List ℕ → List ℕ
kind_text octets = reading_text (reading_of octets) octets
