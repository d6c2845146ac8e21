-- helper
-- Examples of octets, and of the texts of their kind.
use Rattle.std.specs.Prelude.{◌≡◌, codes, [], ◌∷◌, Some, refl}
use Rattle.std.specs.Fmt.{digits}
use Rattle.explain_octets.specs.Kinds.{asked_text, kind_text, telegram_text}
use Rattle.explain_octets.specs.Points.{point_text}

-- master 1 asks slave 5
pub diagnosis_is_asked_for : kind_text (0x68 ∷ 0x05 ∷ 0x05 ∷ 0x68 ∷ 0x85 ∷ 0x81 ∷ 0x6D ∷ 0x3C ∷ 0x3E ∷ 0xED ∷ 0x16 ∷ []) ≡ codes "SD2 SRD high FCB 1 FCV 0  Slave_Diag (60) from 62"
unfolding kind_text telegram_text asked_text digits
diagnosis_is_asked_for = refl

-- a request without DSAP and SSAP
pub data_are_exchanged : kind_text (0x68 ∷ 0x05 ∷ 0x05 ∷ 0x68 ∷ 0x05 ∷ 0x01 ∷ 0x7D ∷ 0xAA ∷ 0x55 ∷ 0x82 ∷ 0x16 ∷ []) ≡ codes "SD2 SRD high FCB 1 FCV 1  Data_Exchange"
unfolding kind_text telegram_text asked_text digits
data_are_exchanged = refl

-- without data, and of eight octets
pub no_data_are_sent : kind_text (0x10 ∷ 0x05 ∷ 0x01 ∷ 0x5C ∷ 0x62 ∷ 0x16 ∷ []) ≡ codes "SD1 SRD low FCB 0 FCV 1  Data_Exchange"
unfolding kind_text telegram_text asked_text digits
no_data_are_sent = refl

pub eight_octets_as_sd3 : kind_text (0xA2 ∷ 0x05 ∷ 0x01 ∷ 0x6D ∷ 0x00 ∷ 0x00 ∷ 0x00 ∷ 0x00 ∷ 0x00 ∷ 0x00 ∷ 0x00 ∷ 0x00 ∷ 0x73 ∷ 0x16 ∷ []) ≡ codes "SD3 SRD high FCB 1 FCV 0  Data_Exchange"
unfolding kind_text telegram_text asked_text digits
eight_octets_as_sd3 = refl

-- to all slaves
pub slaves_are_controlled : kind_text (0x68 ∷ 0x07 ∷ 0x07 ∷ 0x68 ∷ 0xFF ∷ 0x81 ∷ 0x46 ∷ 0x3A ∷ 0x3E ∷ 0x20 ∷ 0x00 ∷ 0x5E ∷ 0x16 ∷ []) ≡ codes "SD2 SDN high FCB 0 FCV 0  Global_Control (58) from 62"
unfolding kind_text telegram_text asked_text digits
slaves_are_controlled = refl

-- points that the table does not have, with and without an SSAP
pub point_of_no_service : kind_text (0x68 ∷ 0x04 ∷ 0x04 ∷ 0x68 ∷ 0x85 ∷ 0x01 ∷ 0x6C ∷ 0x0C ∷ 0xFE ∷ 0x16 ∷ []) ≡ codes "SD2 SRD low FCB 1 FCV 0  DSAP 12"
unfolding kind_text telegram_text asked_text digits
point_of_no_service = refl

pub point_of_no_service_from_another : kind_text (0x68 ∷ 0x05 ∷ 0x05 ∷ 0x68 ∷ 0x85 ∷ 0x81 ∷ 0x5C ∷ 0x0C ∷ 0x3E ∷ 0xAC ∷ 0x16 ∷ []) ≡ codes "SD2 SRD low FCB 0 FCV 1  DSAP 12, SSAP 62"
unfolding kind_text telegram_text asked_text digits
point_of_no_service_from_another = refl

pub unsimulated_point : kind_text (0x68 ∷ 0x04 ∷ 0x04 ∷ 0x68 ∷ 0x85 ∷ 0x01 ∷ 0x6C ∷ 0x37 ∷ 0x29 ∷ 0x16 ∷ []) ≡ codes "SD2 SRD low FCB 1 FCV 0  DSAP 55 (Set_Slave_Add: not simulated)"
unfolding kind_text telegram_text asked_text digits
unsimulated_point = refl

pub unsimulated_point_from_another : kind_text (0x68 ∷ 0x05 ∷ 0x05 ∷ 0x68 ∷ 0x85 ∷ 0x81 ∷ 0x6D ∷ 0x33 ∷ 0x33 ∷ 0xD9 ∷ 0x16 ∷ []) ≡ codes "SD2 SRD high FCB 1 FCV 0  DSAP 51, SSAP 51 (MSAC_C1, DP-V1: not simulated)"
unfolding kind_text telegram_text asked_text digits
unsimulated_point_from_another = refl

-- the default point, with an SSAP
pub default_point_from_another : kind_text (0x68 ∷ 0x04 ∷ 0x04 ∷ 0x68 ∷ 0x05 ∷ 0x81 ∷ 0x7D ∷ 0x3E ∷ 0x41 ∷ 0x16 ∷ []) ≡ codes "SD2 SRD high FCB 1 FCV 1  Data_Exchange from 62"
unfolding kind_text telegram_text asked_text digits
default_point_from_another = refl

-- each point that is not simulated, and one that the table does not have
pub msac_c2 : point_text (Some 49) ≡ codes "DSAP 49 (MSAC_C2, DP-V1: not simulated)"
unfolding digits
msac_c2 = refl

pub msal_c1 : point_text (Some 50) ≡ codes "DSAP 50 (MSAL_C1, DP-V1: not simulated)"
unfolding digits
msal_c1 = refl

pub msac_c1 : point_text (Some 51) ≡ codes "DSAP 51 (MSAC_C1, DP-V1: not simulated)"
unfolding digits
msac_c1 = refl

pub master_to_master : point_text (Some 54) ≡ codes "DSAP 54 (master to master: not simulated)"
unfolding digits
master_to_master = refl

pub set_slave_add : point_text (Some 55) ≡ codes "DSAP 55 (Set_Slave_Add: not simulated)"
unfolding digits
set_slave_add = refl

pub point_12 : point_text (Some 12) ≡ codes "DSAP 12"
unfolding digits
point_12 = refl

-- functions without access points
pub fdl_status : kind_text (0x10 ∷ 0x05 ∷ 0x01 ∷ 0x49 ∷ 0x4F ∷ 0x16 ∷ []) ≡ codes "SD1 FDL status"
unfolding kind_text telegram_text asked_text digits
fdl_status = refl

pub ident : kind_text (0x10 ∷ 0x05 ∷ 0x01 ∷ 0x4E ∷ 0x54 ∷ 0x16 ∷ []) ≡ codes "SD1 ident"
unfolding kind_text telegram_text asked_text digits
ident = refl

pub lsap_status : kind_text (0x10 ∷ 0x05 ∷ 0x01 ∷ 0x4F ∷ 0x55 ∷ 0x16 ∷ []) ≡ codes "SD1 LSAP status"
unfolding kind_text telegram_text asked_text digits
lsap_status = refl

pub reserved : kind_text (0x10 ∷ 0x05 ∷ 0x01 ∷ 0x47 ∷ 0x4D ∷ 0x16 ∷ []) ≡ codes "SD1 reserved function 7"
unfolding kind_text telegram_text asked_text digits
reserved = refl

pub sda : kind_text (0x10 ∷ 0x05 ∷ 0x01 ∷ 0x73 ∷ 0x79 ∷ 0x16 ∷ []) ≡ codes "SD1 SDA low FCB 1 FCV 1  Data_Exchange"
unfolding kind_text telegram_text asked_text digits
sda = refl

-- DSAP is announced and missing; DSAP is present and not plain
pub no_extension : kind_text (0x10 ∷ 0x85 ∷ 0x01 ∷ 0x6C ∷ 0xF2 ∷ 0x16 ∷ []) ≡ codes "SD1 SRD low FCB 1 FCV 0  extension missing or not plain"
unfolding kind_text telegram_text asked_text digits
no_extension = refl

pub extension_not_plain : kind_text (0x68 ∷ 0x05 ∷ 0x05 ∷ 0x68 ∷ 0x85 ∷ 0x01 ∷ 0x49 ∷ 0xC0 ∷ 0x01 ∷ 0x90 ∷ 0x16 ∷ []) ≡ codes "SD2 FDL status  extension missing or not plain"
unfolding kind_text telegram_text asked_text digits
extension_not_plain = refl

pub response : kind_text (0x10 ∷ 0x01 ∷ 0x05 ∷ 0x00 ∷ 0x06 ∷ 0x16 ∷ []) ≡ codes "SD1 response"
unfolding kind_text telegram_text asked_text digits
response = refl

pub token : kind_text (0xDC ∷ 0x03 ∷ 0x02 ∷ []) ≡ codes "SD4 token to 3 from 2"
unfolding kind_text telegram_text asked_text digits
token = refl

pub token_to_itself : kind_text (0xDC ∷ 0x01 ∷ 0x01 ∷ []) ≡ codes "SD4 token to 1 from 1, alone in the ring"
unfolding kind_text telegram_text asked_text digits
token_to_itself = refl

-- bit 7 of an address octet belongs to no address
pub token_with_bit_7 : kind_text (0xDC ∷ 0x81 ∷ 0x01 ∷ []) ≡ codes "SD4 token to 1 from 1, alone in the ring"
unfolding kind_text telegram_text asked_text digits
token_with_bit_7 = refl

pub acknowledgement : kind_text (0xE5 ∷ []) ≡ codes "SC short acknowledgement"
unfolding kind_text telegram_text asked_text digits
acknowledgement = refl

-- octets that are no frame
pub no_start : kind_text (0x33 ∷ []) ≡ codes "no telegram: NoStart, the first octet is no start delimiter"
unfolding kind_text telegram_text asked_text digits
no_start = refl

pub wrong_check_sequence : kind_text (0x10 ∷ 0x05 ∷ 0x01 ∷ 0x49 ∷ 0x4E ∷ 0x16 ∷ []) ≡ codes "no telegram: BadEnd, the check sequence is 4e, not 4f"
unfolding kind_text telegram_text asked_text digits
wrong_check_sequence = refl

pub wrong_end_delimiter : kind_text (0x10 ∷ 0x05 ∷ 0x01 ∷ 0x49 ∷ 0x4F ∷ 0x17 ∷ []) ≡ codes "no telegram: BadEnd, the end delimiter is 17, not 16"
unfolding kind_text telegram_text asked_text digits
wrong_end_delimiter = refl

pub wrong_check_sequence_and_end_delimiter : kind_text (0x10 ∷ 0x05 ∷ 0x01 ∷ 0x49 ∷ 0x4E ∷ 0x17 ∷ []) ≡ codes "no telegram: BadEnd, the check sequence is 4e, not 4f"
unfolding kind_text telegram_text asked_text digits
wrong_check_sequence_and_end_delimiter = refl

pub wrong_end_before_more_octets : kind_text (0x68 ∷ 0x04 ∷ 0x04 ∷ 0x68 ∷ 0x05 ∷ 0x01 ∷ 0x49 ∷ 0x07 ∷ 0x57 ∷ 0x16 ∷ 0xE5 ∷ []) ≡ codes "no telegram: BadEnd, the check sequence is 57, not 56"
unfolding kind_text telegram_text asked_text digits
wrong_end_before_more_octets = refl

pub two_lengths : kind_text (0x68 ∷ 0x05 ∷ 0x06 ∷ 0x67 ∷ []) ≡ codes "no telegram: BadHead, the length octets are 05 and 06"
unfolding kind_text telegram_text asked_text digits
two_lengths = refl

pub wrong_second_start_delimiter : kind_text (0x68 ∷ 0x03 ∷ 0x03 ∷ 0x67 ∷ []) ≡ codes "no telegram: BadHead, the second start delimiter is 67, not 68"
unfolding kind_text telegram_text asked_text digits
wrong_second_start_delimiter = refl

pub too_small_a_length : kind_text (0x68 ∷ 0x03 ∷ 0x03 ∷ 0x68 ∷ []) ≡ codes "no telegram: BadHead, the length is 3, of 4 to 249"
unfolding kind_text telegram_text asked_text digits
too_small_a_length = refl

pub too_great_a_length : kind_text (0x68 ∷ 0xFA ∷ 0xFA ∷ 0x68 ∷ []) ≡ codes "no telegram: BadHead, the length is 250, of 4 to 249"
unfolding kind_text telegram_text asked_text digits
too_great_a_length = refl

pub cut_off : kind_text (0x10 ∷ 0x05 ∷ 0x01 ∷ []) ≡ codes "no telegram: Short, the frame is not whole"
unfolding kind_text telegram_text asked_text digits
cut_off = refl

pub more_octets : kind_text (0xE5 ∷ 0xE5 ∷ []) ≡ codes "no telegram: Long, octets follow the frame"
unfolding kind_text telegram_text asked_text digits
more_octets = refl
