-- helper
-- Examples of octets, and of the text of their data.
use Rattle.std.specs.Prelude.{◌≡◌, codes, [], ◌∷◌, Some, None, refl}
use Rattle.std.specs.Fmt.{digits}
use Rattle.explain_octets.specs.Words.{groups_text, is_one_group, listed}
use Rattle.explain_octets.specs.DpV1.{dp_v1_names, has_dp_v1_form}
use Rattle.explain_octets.specs.Parameters.{locking_text, parameters_text, requests_text, user_text}
use Rattle.explain_octets.specs.Configurations.{amount_text, configuration_text, identifiers_of, meaning_text, special_text}
use Rattle.explain_octets.specs.Commands.{asked_of}
use Rattle.explain_octets.specs.Contents.{contents_text, control_row}

-- parameters: Lock_Req, WD_On with a factor 0
pub factor_0 : parameters_text (0x88 ∷ 0x00 ∷ 0x05 ∷ 0x00 ∷ 0x80 ∷ 0xA1 ∷ 0x00 ∷ []) ≡ codes "Lock_Req; watchdog time 0; min TSDR unchanged; ident 80A1; groups none; user parameters none"
unfolding contents_text parameters_text locking_text requests_text configuration_text identifiers_of meaning_text special_text amount_text asked_of groups_text is_one_group listed digits
factor_0 = refl

-- without WD_On, and Freeze_Req
pub no_watchdog : parameters_text (0x90 ∷ 0x0A ∷ 0x01 ∷ 0x0B ∷ 0x00 ∷ 0x0F ∷ 0x82 ∷ []) ≡ codes "Lock_Req, Freeze_Req; watchdog off; min TSDR 11; ident 000F; groups 2, 8; user parameters none"
unfolding contents_text parameters_text locking_text requests_text configuration_text identifiers_of meaning_text special_text amount_text asked_of groups_text is_one_group listed digits
no_watchdog = refl

-- the longest watchdog time
pub longest_time : parameters_text (0x88 ∷ 0xFF ∷ 0xFF ∷ 0x00 ∷ 0x80 ∷ 0xA1 ∷ 0x00 ∷ []) ≡ codes "Lock_Req; watchdog 650250 ms; min TSDR unchanged; ident 80A1; groups none; user parameters none"
unfolding contents_text parameters_text locking_text requests_text configuration_text identifiers_of meaning_text special_text amount_text asked_of groups_text is_one_group listed digits
longest_time = refl

-- user parameters: none, fewer than three octets, and three octets of 0 are only shown in hex
pub no_user_parameters : user_text ([]) ≡ codes "user parameters none"
unfolding has_dp_v1_form dp_v1_names listed digits
no_user_parameters = refl

pub one_user_parameter : user_text (0xC0 ∷ []) ≡ codes "user parameters c0"
unfolding has_dp_v1_form dp_v1_names listed digits
one_user_parameter = refl

pub two_user_parameters : user_text (0xC0 ∷ 0x00 ∷ []) ≡ codes "user parameters c0 00"
unfolding has_dp_v1_form dp_v1_names listed digits
two_user_parameters = refl

pub three_zeros : user_text (0x00 ∷ 0x00 ∷ 0x00 ∷ []) ≡ codes "user parameters 00 00 00"
unfolding has_dp_v1_form dp_v1_names listed digits
three_zeros = refl

-- the form of DP-V1
pub dp_v1_is_enabled : user_text (0xC0 ∷ 0x00 ∷ 0x00 ∷ []) ≡ codes "user parameters c0 00 00 (DPV1_Enable, Fail_Safe)"
unfolding has_dp_v1_form dp_v1_names listed digits
dp_v1_is_enabled = refl

pub more_than_three_octets : user_text (0x80 ∷ 0x00 ∷ 0x00 ∷ 0x18 ∷ []) ≡ codes "user parameters 80 00 00 18 (DPV1_Enable)"
unfolding has_dp_v1_form dp_v1_names listed digits
more_than_three_octets = refl

pub alarm_mode_alone : user_text (0x00 ∷ 0x00 ∷ 0x03 ∷ []) ≡ codes "user parameters 00 00 03 (Alarm_Mode 3)"
unfolding has_dp_v1_form dp_v1_names listed digits
alarm_mode_alone = refl

pub every_bit_of_octet_1 : user_text (0xE7 ∷ 0x00 ∷ 0x00 ∷ []) ≡ codes "user parameters e7 00 00 (DPV1_Enable, Fail_Safe, Publisher_Enable, WD_Base_1ms, Dis_Stopbit_Control, Dis_Startbit_Control)"
unfolding has_dp_v1_form dp_v1_names listed digits
every_bit_of_octet_1 = refl

pub every_bit_of_octet_2 : user_text (0x00 ∷ 0xFD ∷ 0x00 ∷ []) ≡ codes "user parameters 00 fd 00 (Enable_Pull_Plug_Alarm, Enable_Process_Alarm, Enable_Diagnostic_Alarm, Enable_Manufacturer_Specific_Alarm, Enable_Status_Alarm, Enable_Update_Alarm, Chk_Cfg_Mode)"
unfolding has_dp_v1_form dp_v1_names listed digits
every_bit_of_octet_2 = refl

pub every_bit_of_octet_3 : user_text (0x00 ∷ 0x00 ∷ 0x9F ∷ []) ≡ codes "user parameters 00 00 9f (Prm_Cmd, IsoM_Req, Prm_Structure, Alarm_Mode 7)"
unfolding has_dp_v1_form dp_v1_names listed digits
every_bit_of_octet_3 = refl

-- a reserved bit that is 1: octet 1 bits 4 and 3, octet 2 bit 1, octet 3 bits 6 and 5
pub bit_4_of_octet_1 : user_text (0x90 ∷ 0x00 ∷ 0x00 ∷ []) ≡ codes "user parameters 90 00 00"
unfolding has_dp_v1_form dp_v1_names listed digits
bit_4_of_octet_1 = refl

pub bit_3_of_octet_1 : user_text (0x88 ∷ 0x00 ∷ 0x00 ∷ []) ≡ codes "user parameters 88 00 00"
unfolding has_dp_v1_form dp_v1_names listed digits
bit_3_of_octet_1 = refl

pub bit_1_of_octet_2 : user_text (0x80 ∷ 0x02 ∷ 0x00 ∷ []) ≡ codes "user parameters 80 02 00"
unfolding has_dp_v1_form dp_v1_names listed digits
bit_1_of_octet_2 = refl

pub bit_6_of_octet_3 : user_text (0x80 ∷ 0x00 ∷ 0x40 ∷ []) ≡ codes "user parameters 80 00 40"
unfolding has_dp_v1_form dp_v1_names listed digits
bit_6_of_octet_3 = refl

pub bit_5_of_octet_3 : user_text (0x80 ∷ 0x00 ∷ 0x20 ∷ []) ≡ codes "user parameters 80 00 20"
unfolding has_dp_v1_form dp_v1_names listed digits
bit_5_of_octet_3 = refl

pub locked_with_dp_v1 : parameters_text (0x88 ∷ 0x0A ∷ 0x01 ∷ 0x0B ∷ 0x80 ∷ 0xA1 ∷ 0x00 ∷ 0xC0 ∷ 0x00 ∷ 0x00 ∷ []) ≡ codes "Lock_Req; watchdog 100 ms; min TSDR 11; ident 80A1; groups none; user parameters c0 00 00 (DPV1_Enable, Fail_Safe)"
unfolding parameters_text locking_text requests_text has_dp_v1_form dp_v1_names groups_text is_one_group listed digits
locked_with_dp_v1 = refl

-- a Set_Prm that is too short shows no bits
pub too_short : parameters_text (0xC0 ∷ 0x0A ∷ 0x01 ∷ []) ≡ codes "too short: 3 of at least 7 octets"
unfolding contents_text parameters_text locking_text requests_text configuration_text identifiers_of meaning_text special_text amount_text asked_of groups_text is_one_group listed digits
too_short = refl

-- Unlock_Req takes precedence over Lock_Req
pub unlock : parameters_text (0xC0 ∷ 0x0A ∷ 0x01 ∷ 0x0B ∷ 0x80 ∷ 0xA1 ∷ 0x00 ∷ []) ≡ codes "Unlock_Req"
unfolding contents_text parameters_text locking_text requests_text configuration_text identifiers_of meaning_text special_text amount_text asked_of groups_text is_one_group listed digits
unlock = refl

-- neither Unlock_Req nor Lock_Req
pub min_tsdr_alone : parameters_text (0x08 ∷ 0x0A ∷ 0x01 ∷ 0x14 ∷ 0x80 ∷ 0xA1 ∷ 0x00 ∷ []) ≡ codes "min TSDR 20 alone"
unfolding contents_text parameters_text locking_text requests_text configuration_text identifiers_of meaning_text special_text amount_text asked_of groups_text is_one_group listed digits
min_tsdr_alone = refl

pub nothing_is_set : parameters_text (0x00 ∷ 0x00 ∷ 0x00 ∷ 0x00 ∷ 0x00 ∷ 0x00 ∷ 0x00 ∷ []) ≡ codes "nothing is set"
unfolding contents_text parameters_text locking_text requests_text configuration_text identifiers_of meaning_text special_text amount_text asked_of groups_text is_one_group listed digits
nothing_is_set = refl

-- configurations: the general format
pub outputs_and_inputs : configuration_text (0x21 ∷ 0x11 ∷ []) ≡ codes "21 outputs 2 octets; 11 inputs 2 octets"
unfolding contents_text parameters_text locking_text requests_text configuration_text identifiers_of meaning_text special_text amount_text asked_of groups_text is_one_group listed digits
outputs_and_inputs = refl

pub one_word_each : configuration_text (0x70 ∷ []) ≡ codes "70 inputs and outputs 1 word"
unfolding contents_text parameters_text locking_text requests_text configuration_text identifiers_of meaning_text special_text amount_text asked_of groups_text is_one_group listed digits
one_word_each = refl

-- consistency is not shown
pub consistent : configuration_text (0xB0 ∷ []) ≡ codes "b0 inputs and outputs 1 octet"
unfolding contents_text parameters_text locking_text requests_text configuration_text identifiers_of meaning_text special_text amount_text asked_of groups_text is_one_group listed digits
consistent = refl

-- the special format, without and with the manufacturer's octets
pub words_of_inputs : configuration_text (0x40 ∷ 0xC3 ∷ []) ≡ codes "40 c3 inputs 4 words"
unfolding contents_text parameters_text locking_text requests_text configuration_text identifiers_of meaning_text special_text amount_text asked_of groups_text is_one_group listed digits
words_of_inputs = refl

pub outputs_of_the_maker : configuration_text (0x81 ∷ 0x3F ∷ 0xAA ∷ []) ≡ codes "81 3f aa outputs 64 octets, vendor aa"
unfolding contents_text parameters_text locking_text requests_text configuration_text identifiers_of meaning_text special_text amount_text asked_of groups_text is_one_group listed digits
outputs_of_the_maker = refl

pub outputs_before_inputs : configuration_text (0xC1 ∷ 0x01 ∷ 0x03 ∷ 0x00 ∷ []) ≡ codes "c1 01 03 00 outputs 2 octets, inputs 4 octets, vendor 00"
unfolding contents_text parameters_text locking_text requests_text configuration_text identifiers_of meaning_text special_text amount_text asked_of groups_text is_one_group listed digits
outputs_before_inputs = refl

pub empty_slots : configuration_text (0x00 ∷ 0x02 ∷ 0xAA ∷ 0xBB ∷ []) ≡ codes "00 empty slot; 02 aa bb empty slot, vendor aa bb"
unfolding contents_text parameters_text locking_text requests_text configuration_text identifiers_of meaning_text special_text amount_text asked_of groups_text is_one_group listed digits
empty_slots = refl

-- 15 in the low half of the head stands for no manufacturer's octets
pub no_octets_of_the_maker : configuration_text (0x4F ∷ 0x00 ∷ []) ≡ codes "4f 00 inputs 1 octet"
unfolding contents_text parameters_text locking_text requests_text configuration_text identifiers_of meaning_text special_text amount_text asked_of groups_text is_one_group listed digits
no_octets_of_the_maker = refl

-- the last identifier is cut
pub is_cut : configuration_text (0x21 ∷ 0xC1 ∷ 0x01 ∷ []) ≡ codes "21 outputs 2 octets; c1 01 ends within an identifier"
unfolding contents_text parameters_text locking_text requests_text configuration_text identifiers_of meaning_text special_text amount_text asked_of groups_text is_one_group listed digits
is_cut = refl

-- commands
pub one_group : control_row (0x20 ∷ 0x04 ∷ []) ≡ codes "command     Sync; group 3"
unfolding contents_text parameters_text locking_text requests_text configuration_text identifiers_of meaning_text special_text amount_text asked_of groups_text is_one_group listed digits
one_group = refl

pub all_bits : control_row (0x3E ∷ 0x09 ∷ []) ≡ codes "command     Clear_Data, Unfreeze, Freeze, Unsync, Sync; groups 1, 4"
unfolding contents_text parameters_text locking_text requests_text configuration_text identifiers_of meaning_text special_text amount_text asked_of groups_text is_one_group listed digits
all_bits = refl

-- bits 0, 6 and 7 are ignored, and no other bit is 1
pub other_bits : control_row (0xC1 ∷ 0x00 ∷ []) ≡ codes "command     Operate; every slave"
unfolding contents_text parameters_text locking_text requests_text configuration_text identifiers_of meaning_text special_text amount_text asked_of groups_text is_one_group listed digits
other_bits = refl

pub too_few_octets : control_row (0x20 ∷ []) ≡ codes "data        20"
unfolding contents_text parameters_text locking_text requests_text configuration_text identifiers_of meaning_text special_text amount_text asked_of groups_text is_one_group listed digits
too_few_octets = refl

-- whole telegrams: Set_Prm, Data_Exchange, Global_Control
pub slave_is_locked : contents_text (0x68 ∷ 0x0E ∷ 0x0E ∷ 0x68 ∷ 0x85 ∷ 0x81 ∷ 0x6D ∷ 0x3D ∷ 0x3E ∷ 0xB8 ∷ 0x0A ∷ 0x01 ∷ 0x0B ∷ 0x80 ∷ 0xA1 ∷ 0x09 ∷ 0x01 ∷ 0x02 ∷ 0xE9 ∷ 0x16 ∷ []) ≡ Some (codes "parameters  Lock_Req, Sync_Req, Freeze_Req; watchdog 100 ms; min TSDR 11; ident 80A1; groups 1, 4; user parameters 01 02")
unfolding contents_text parameters_text locking_text requests_text configuration_text identifiers_of meaning_text special_text amount_text asked_of groups_text is_one_group listed digits
slave_is_locked = refl

pub outputs_are_sent : contents_text (0x68 ∷ 0x05 ∷ 0x05 ∷ 0x68 ∷ 0x05 ∷ 0x01 ∷ 0x7D ∷ 0xAA ∷ 0x55 ∷ 0x82 ∷ 0x16 ∷ []) ≡ Some (codes "outputs     aa 55")
unfolding contents_text parameters_text locking_text requests_text configuration_text identifiers_of meaning_text special_text amount_text asked_of groups_text is_one_group listed digits
outputs_are_sent = refl

pub all_are_synchronized : contents_text (0x68 ∷ 0x07 ∷ 0x07 ∷ 0x68 ∷ 0xFF ∷ 0x81 ∷ 0x46 ∷ 0x3A ∷ 0x3E ∷ 0x20 ∷ 0x00 ∷ 0x5E ∷ 0x16 ∷ []) ≡ Some (codes "command     Sync; every slave")
unfolding contents_text parameters_text locking_text requests_text configuration_text identifiers_of meaning_text special_text amount_text asked_of groups_text is_one_group listed digits
all_are_synchronized = refl

pub configuration_is_sent : contents_text (0x68 ∷ 0x07 ∷ 0x07 ∷ 0x68 ∷ 0x85 ∷ 0x81 ∷ 0x5D ∷ 0x3E ∷ 0x3E ∷ 0x21 ∷ 0x11 ∷ 0x11 ∷ 0x16 ∷ []) ≡ Some (codes "configured  21 outputs 2 octets; 11 inputs 2 octets")
unfolding contents_text parameters_text locking_text requests_text configuration_text identifiers_of meaning_text special_text amount_text asked_of groups_text is_one_group listed digits
configuration_is_sent = refl

-- a point that takes no data
pub data_of_another_point : contents_text (0x68 ∷ 0x06 ∷ 0x06 ∷ 0x68 ∷ 0x85 ∷ 0x81 ∷ 0x6D ∷ 0x38 ∷ 0x3E ∷ 0x07 ∷ 0xF0 ∷ 0x16 ∷ []) ≡ Some (codes "data        07")
unfolding contents_text parameters_text locking_text requests_text configuration_text identifiers_of meaning_text special_text amount_text asked_of groups_text is_one_group listed digits
data_of_another_point = refl

-- a function without access points
pub data_of_no_point : contents_text (0x68 ∷ 0x04 ∷ 0x04 ∷ 0x68 ∷ 0x05 ∷ 0x01 ∷ 0x49 ∷ 0x07 ∷ 0x56 ∷ 0x16 ∷ []) ≡ Some (codes "data        07")
unfolding contents_text parameters_text locking_text requests_text configuration_text identifiers_of meaning_text special_text amount_text asked_of groups_text is_one_group listed digits
data_of_no_point = refl

-- an extension octet that is not plain
pub whole_data_unit : contents_text (0x68 ∷ 0x05 ∷ 0x05 ∷ 0x68 ∷ 0x85 ∷ 0x01 ∷ 0x6C ∷ 0xC0 ∷ 0x01 ∷ 0xB3 ∷ 0x16 ∷ []) ≡ Some (codes "data        c0 01")
unfolding contents_text parameters_text locking_text requests_text configuration_text identifiers_of meaning_text special_text amount_text asked_of groups_text is_one_group listed digits
whole_data_unit = refl

-- nothing after the access points, and no telegram
pub no_data : contents_text (0x68 ∷ 0x05 ∷ 0x05 ∷ 0x68 ∷ 0x85 ∷ 0x81 ∷ 0x6D ∷ 0x3C ∷ 0x3E ∷ 0xED ∷ 0x16 ∷ []) ≡ None
unfolding contents_text parameters_text locking_text requests_text configuration_text identifiers_of meaning_text special_text amount_text asked_of groups_text is_one_group listed digits
no_data = refl

pub token_has_none : contents_text (0xDC ∷ 0x03 ∷ 0x02 ∷ []) ≡ None
unfolding contents_text parameters_text locking_text requests_text configuration_text identifiers_of meaning_text special_text amount_text asked_of groups_text is_one_group listed digits
token_has_none = refl

pub no_frame_has_none : contents_text (0x33 ∷ []) ≡ None
unfolding contents_text parameters_text locking_text requests_text configuration_text identifiers_of meaning_text special_text amount_text asked_of groups_text is_one_group listed digits
no_frame_has_none = refl
