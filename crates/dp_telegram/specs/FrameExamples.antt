-- helper
-- Example texts, and the frames or faults that they are read as.
use Rattle.std.specs.Prelude.{◌≡◌, [], ◌∷◌, true, false, None, Some, Ok, Err, refl}
use Rattle.dp_telegram.specs.declared.fault.FrameFault.TheVariants.{NoStart, BadHead, BadEnd, Short, Long}
use Rattle.dp_telegram.specs.declared.frame.Frame.{Frame}
use Rattle.dp_telegram.specs.declared.frame.Frame.TheVariants as frames
use Rattle.dp_telegram.specs.FrameText.{reading_of, text_of}
use Rattle.dp_telegram.specs.Access.{parts_of, request_of}
use Rattle.dp_telegram.specs.FunctionCode.{function_of, is_request, frame_count_bit, frame_count_is_valid, data_low}
use Rattle.dp_telegram.specs.declared.function_code.Function.TheVariants.{SrdHigh, FdlStatus, Reserved}

-- no octet, an SD2 head that isn't whole, no start delimiter, LE and LEr that differ
pub nothing_is_short : reading_of [] ≡ Err Short
nothing_is_short = refl

pub half_a_head_is_short : reading_of (0x68 ∷ 0x05 ∷ 0x05 ∷ []) ≡ Err Short
half_a_head_is_short = refl

pub other_octet_is_no_start : reading_of (0x33 ∷ []) ≡ Err NoStart
other_octet_is_no_start = refl

pub lengths_differ : reading_of (0x68 ∷ 0x05 ∷ 0x04 ∷ 0x68 ∷ []) ≡ Err BadHead
lengths_differ = refl

-- LE below 4 and above 249
pub length_3_is_no_head : reading_of (0x68 ∷ 0x03 ∷ 0x03 ∷ 0x68 ∷ []) ≡ Err BadHead
length_3_is_no_head = refl

pub length_250_is_no_head : reading_of (0x68 ∷ 0xFA ∷ 0xFA ∷ 0x68 ∷ []) ≡ Err BadHead
length_250_is_no_head = refl

-- an FDL status request to slave 5, with a wrong check sequence, right, and with one octet too many
pub wrong_check_sequence : reading_of (0x10 ∷ 0x05 ∷ 0x01 ∷ 0x49 ∷ 0x4E ∷ 0x16 ∷ []) ≡ Err BadEnd
wrong_check_sequence = refl

pub status_request : reading_of (0x10 ∷ 0x05 ∷ 0x01 ∷ 0x49 ∷ 0x4F ∷ 0x16 ∷ []) ≡ Ok (frames.Telegram (record { da = 0x05; sa = 0x01; fc = 0x49; du = record { items = [] } }))
status_request = refl

pub octet_behind : reading_of (0x10 ∷ 0x05 ∷ 0x01 ∷ 0x49 ∷ 0x4F ∷ 0x16 ∷ 0x00 ∷ []) ≡ Err Long
octet_behind = refl

-- token and short acknowledgement
pub token_to_2 : reading_of (0xDC ∷ 0x02 ∷ 0x01 ∷ []) ≡ Ok (frames.Token 0x02 0x01)
token_to_2 = refl

pub acknowledgement : reading_of (0xE5 ∷ []) ≡ Ok frames.Ack
acknowledgement = refl

-- eight octets of data unit as SD3 and as SD2 are one telegram, and SD2 is written
abbrev pub eight_octets : Frame
eight_octets = frames.Telegram (record { da = 0x05; sa = 0x01; fc = 0x6D; du = record { items = 0 ∷ 0 ∷ 0 ∷ 0 ∷ 0 ∷ 0 ∷ 0 ∷ 0 ∷ [] } })

pub eight_octets_as_sd3 : reading_of (0xA2 ∷ 0x05 ∷ 0x01 ∷ 0x6D ∷ 0 ∷ 0 ∷ 0 ∷ 0 ∷ 0 ∷ 0 ∷ 0 ∷ 0 ∷ 0x73 ∷ 0x16 ∷ []) ≡ Ok eight_octets
eight_octets_as_sd3 = refl

pub eight_octets_as_sd2 : reading_of (0x68 ∷ 0x0B ∷ 0x0B ∷ 0x68 ∷ 0x05 ∷ 0x01 ∷ 0x6D ∷ 0 ∷ 0 ∷ 0 ∷ 0 ∷ 0 ∷ 0 ∷ 0 ∷ 0 ∷ 0x73 ∷ 0x16 ∷ []) ≡ Ok eight_octets
eight_octets_as_sd2 = refl

pub eight_octets_are_written_as_sd2 : text_of eight_octets ≡ 0x68 ∷ 0x0B ∷ 0x0B ∷ 0x68 ∷ 0x05 ∷ 0x01 ∷ 0x6D ∷ 0 ∷ 0 ∷ 0 ∷ 0 ∷ 0 ∷ 0 ∷ 0 ∷ 0 ∷ 0x73 ∷ 0x16 ∷ []
eight_octets_are_written_as_sd2 = refl

-- a Slave_Diag request to slave 5: from master 1, point 62, to point 60
pub slave_diag_text : text_of (frames.Telegram (request_of 5 1 0x6D (Some 60) (Some 62) []))
    ≡ 0x68 ∷ 0x05 ∷ 0x05 ∷ 0x68 ∷ 0x85 ∷ 0x81 ∷ 0x6D ∷ 0x3C ∷ 0x3E ∷ 0xED ∷ 0x16 ∷ []
slave_diag_text = refl

pub slave_diag_parts : parts_of (request_of 5 1 0x6D (Some 60) (Some 62) []) ≡ Some (record { dsap = Some 60; ssap = Some 62; payload = record { items = [] } })
slave_diag_parts = refl

-- an extension octet that isn't plain, and one that is missing
pub not_plain : parts_of (record { da = 0x85; sa = 0x81; fc = 0x6D; du = record { items = 0x7C ∷ 0x3E ∷ [] } }) ≡ None
not_plain = refl

pub missing : parts_of (record { da = 0x85; sa = 0x01; fc = 0x6D; du = record { items = [] } }) ≡ None
missing = refl

-- function codes: SRD high with a valid FCB of 1, with bit 7 set too, FDL status, and a response
pub srd_high : function_of 0x7D ≡ SrdHigh
srd_high = refl

pub bit_7_is_ignored : function_of 0xFD ≡ SrdHigh
bit_7_is_ignored = refl

pub count_bit_is_set : frame_count_bit 0x7D ≡ true
count_bit_is_set = refl

pub count_bit_is_valid : frame_count_is_valid 0x7D ≡ true
count_bit_is_valid = refl

pub count_bit_is_not_valid : frame_count_is_valid 0x6D ≡ false
count_bit_is_not_valid = refl

pub srd_is_a_request : is_request 0x6D ≡ true
srd_is_a_request = refl

pub status_function : function_of 0x49 ≡ FdlStatus
status_function = refl

pub number_2_is_reserved : function_of 0x42 ≡ Reserved
number_2_is_reserved = refl

pub data_response_is_no_request : is_request data_low ≡ false
data_response_is_no_request = refl
