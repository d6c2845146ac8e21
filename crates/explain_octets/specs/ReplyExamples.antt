-- helper
-- Examples of requests and replies, and of the texts of the replies.
use Rattle.std.specs.Prelude.{◌≡◌, codes, true, false, [], ◌∷◌, Some, None, refl}
use Rattle.std.specs.Fmt.{digits}
use Rattle.explain_octets.specs.Words.{listed}
use Rattle.explain_octets.specs.Configurations.{amount_text, configuration_text, identifiers_of, meaning_text}
use Rattle.explain_octets.specs.Blocks.{block_text, blocks_of}
use Rattle.explain_octets.specs.Diagnoses.{diagnosis_words, whole_text}
use Rattle.explain_octets.specs.Replies.{parts_in, reply_text, response_text, sent_text}

-- diagnoses: every bit
pub every_bit : diagnosis_words (0x5E ∷ 0x3F ∷ 0x80 ∷ 0xFF ∷ 0x80 ∷ 0xA1 ∷ []) ≡ codes "Station_Not_Ready, Cfg_Fault, Ext_Diag, Not_Supported, Prm_Fault; Prm_Req, Stat_Diag, WD_On, Freeze_Mode, Sync_Mode; Ext_Diag_Overflow; held by nobody; ident 80A1"
unfolding reply_text parts_in response_text sent_text diagnosis_words whole_text configuration_text identifiers_of meaning_text amount_text listed digits
every_bit = refl

-- bit 2 of the second octet, which is always 1, and the bits of the master
pub no_bit : diagnosis_words (0xA1 ∷ 0xC4 ∷ 0x7F ∷ 0x01 ∷ 0x80 ∷ 0xA1 ∷ []) ≡ codes "held by master 1; ident 80A1"
unfolding reply_text parts_in response_text sent_text diagnosis_words whole_text configuration_text identifiers_of meaning_text amount_text listed digits
no_bit = refl

-- extended octets, of one block
pub extended : diagnosis_words (0x08 ∷ 0x0C ∷ 0x00 ∷ 0x01 ∷ 0x80 ∷ 0xA1 ∷ 0x03 ∷ 0x01 ∷ 0xFF ∷ []) ≡ codes "Ext_Diag; WD_On; held by master 1; ident 80A1; extended diagnosis 03 01 ff (device 01 ff)"
unfolding diagnosis_words whole_text block_text blocks_of listed digits
extended = refl

pub too_short : diagnosis_words (0x08 ∷ 0x0C ∷ []) ≡ codes "data 08 0c"
unfolding reply_text parts_in response_text sent_text diagnosis_words whole_text configuration_text identifiers_of meaning_text amount_text listed digits
too_short = refl

-- a slave that nobody holds
pub fresh_diagnosis : reply_text false (0x68 ∷ 0x05 ∷ 0x05 ∷ 0x68 ∷ 0x85 ∷ 0x81 ∷ 0x6D ∷ 0x3C ∷ 0x3E ∷ 0xED ∷ 0x16 ∷ []) (0x68 ∷ 0x0B ∷ 0x0B ∷ 0x68 ∷ 0x81 ∷ 0x85 ∷ 0x08 ∷ 0x3E ∷ 0x3C ∷ 0x02 ∷ 0x05 ∷ 0x00 ∷ 0xFF ∷ 0x80 ∷ 0xA1 ∷ 0xAF ∷ 0x16 ∷ []) ≡ Some (codes "reply       Station_Not_Ready; Prm_Req; held by nobody; ident 80A1")
unfolding reply_text parts_in response_text sent_text diagnosis_words whole_text configuration_text identifiers_of meaning_text amount_text listed digits
fresh_diagnosis = refl

-- inputs, and while a diagnosis is due
pub inputs : reply_text false (0x68 ∷ 0x05 ∷ 0x05 ∷ 0x68 ∷ 0x05 ∷ 0x01 ∷ 0x7D ∷ 0xAA ∷ 0x55 ∷ 0x82 ∷ 0x16 ∷ []) (0x68 ∷ 0x05 ∷ 0x05 ∷ 0x68 ∷ 0x01 ∷ 0x05 ∷ 0x08 ∷ 0x01 ∷ 0x02 ∷ 0x11 ∷ 0x16 ∷ []) ≡ Some (codes "reply       inputs 01 02")
unfolding reply_text parts_in response_text sent_text diagnosis_words whole_text configuration_text identifiers_of meaning_text amount_text listed digits
inputs = refl

pub inputs_of_high_priority : reply_text false (0x68 ∷ 0x05 ∷ 0x05 ∷ 0x68 ∷ 0x05 ∷ 0x01 ∷ 0x7D ∷ 0xAA ∷ 0x55 ∷ 0x82 ∷ 0x16 ∷ []) (0x68 ∷ 0x05 ∷ 0x05 ∷ 0x68 ∷ 0x01 ∷ 0x05 ∷ 0x0A ∷ 0x01 ∷ 0x02 ∷ 0x13 ∷ 0x16 ∷ []) ≡ Some (codes "reply       a diagnosis is due; inputs 01 02")
unfolding reply_text parts_in response_text sent_text diagnosis_words whole_text configuration_text identifiers_of meaning_text amount_text listed digits
inputs_of_high_priority = refl

pub no_inputs_of_high_priority : reply_text false (0x68 ∷ 0x05 ∷ 0x05 ∷ 0x68 ∷ 0x05 ∷ 0x01 ∷ 0x7D ∷ 0xAA ∷ 0x55 ∷ 0x82 ∷ 0x16 ∷ []) (0x10 ∷ 0x01 ∷ 0x05 ∷ 0x0A ∷ 0x10 ∷ 0x16 ∷ []) ≡ Some (codes "reply       a diagnosis is due; no data")
unfolding reply_text parts_in response_text sent_text diagnosis_words whole_text configuration_text identifiers_of meaning_text amount_text listed digits
no_inputs_of_high_priority = refl

-- RD_Inp, RD_Outp and Get_Cfg
pub inputs_are_read : reply_text false (0x68 ∷ 0x05 ∷ 0x05 ∷ 0x68 ∷ 0x85 ∷ 0x81 ∷ 0x7D ∷ 0x38 ∷ 0x3E ∷ 0xF9 ∷ 0x16 ∷ []) (0x68 ∷ 0x06 ∷ 0x06 ∷ 0x68 ∷ 0x81 ∷ 0x85 ∷ 0x08 ∷ 0x3E ∷ 0x38 ∷ 0x07 ∷ 0x8B ∷ 0x16 ∷ []) ≡ Some (codes "reply       inputs 07")
unfolding reply_text parts_in response_text sent_text diagnosis_words whole_text configuration_text identifiers_of meaning_text amount_text listed digits
inputs_are_read = refl

pub outputs_are_read : reply_text false (0x68 ∷ 0x05 ∷ 0x05 ∷ 0x68 ∷ 0x85 ∷ 0x81 ∷ 0x7D ∷ 0x39 ∷ 0x3E ∷ 0xFA ∷ 0x16 ∷ []) (0x68 ∷ 0x06 ∷ 0x06 ∷ 0x68 ∷ 0x81 ∷ 0x85 ∷ 0x08 ∷ 0x3E ∷ 0x39 ∷ 0x05 ∷ 0x8A ∷ 0x16 ∷ []) ≡ Some (codes "reply       outputs 05")
unfolding reply_text parts_in response_text sent_text diagnosis_words whole_text configuration_text identifiers_of meaning_text amount_text listed digits
outputs_are_read = refl

pub configuration_is_read : reply_text false (0x68 ∷ 0x05 ∷ 0x05 ∷ 0x68 ∷ 0x85 ∷ 0x81 ∷ 0x7D ∷ 0x3B ∷ 0x3E ∷ 0xFC ∷ 0x16 ∷ []) (0x68 ∷ 0x07 ∷ 0x07 ∷ 0x68 ∷ 0x81 ∷ 0x85 ∷ 0x08 ∷ 0x3E ∷ 0x3B ∷ 0x21 ∷ 0x11 ∷ 0xB9 ∷ 0x16 ∷ []) ≡ Some (codes "reply       21 outputs 2 octets; 11 inputs 2 octets")
unfolding reply_text parts_in response_text sent_text diagnosis_words whole_text configuration_text identifiers_of meaning_text amount_text listed digits
configuration_is_read = refl

-- a repeat that asks another point gets the remembered reply
pub remembered_of_another_point : reply_text false (0x68 ∷ 0x05 ∷ 0x05 ∷ 0x68 ∷ 0x85 ∷ 0x81 ∷ 0x7D ∷ 0x38 ∷ 0x3E ∷ 0xF9 ∷ 0x16 ∷ []) (0x68 ∷ 0x0B ∷ 0x0B ∷ 0x68 ∷ 0x81 ∷ 0x85 ∷ 0x08 ∷ 0x3E ∷ 0x3C ∷ 0x02 ∷ 0x05 ∷ 0x00 ∷ 0xFF ∷ 0x80 ∷ 0xA1 ∷ 0xAF ∷ 0x16 ∷ []) ≡ Some (codes "reply       to an earlier Slave_Diag (60): Station_Not_Ready; Prm_Req; held by nobody; ident 80A1")
unfolding reply_text parts_in response_text sent_text diagnosis_words whole_text configuration_text identifiers_of meaning_text amount_text listed digits
remembered_of_another_point = refl

pub remembered_inputs : reply_text false (0x68 ∷ 0x05 ∷ 0x05 ∷ 0x68 ∷ 0x85 ∷ 0x81 ∷ 0x6D ∷ 0x3C ∷ 0x3E ∷ 0xED ∷ 0x16 ∷ []) (0x68 ∷ 0x05 ∷ 0x05 ∷ 0x68 ∷ 0x01 ∷ 0x05 ∷ 0x08 ∷ 0x01 ∷ 0x02 ∷ 0x11 ∷ 0x16 ∷ []) ≡ Some (codes "reply       to an earlier Data_Exchange: inputs 01 02")
unfolding reply_text parts_in response_text sent_text diagnosis_words whole_text configuration_text identifiers_of meaning_text amount_text listed digits
remembered_inputs = refl

-- a point that the table does not have
pub remembered_of_point_12 : reply_text false (0x68 ∷ 0x05 ∷ 0x05 ∷ 0x68 ∷ 0x85 ∷ 0x81 ∷ 0x6D ∷ 0x3C ∷ 0x3E ∷ 0xED ∷ 0x16 ∷ []) (0x68 ∷ 0x06 ∷ 0x06 ∷ 0x68 ∷ 0x81 ∷ 0x85 ∷ 0x08 ∷ 0x3E ∷ 0x0C ∷ 0x07 ∷ 0x5F ∷ 0x16 ∷ []) ≡ Some (codes "reply       to an earlier DSAP 12: data 07")
unfolding reply_text parts_in response_text sent_text diagnosis_words whole_text configuration_text identifiers_of meaning_text amount_text listed digits
remembered_of_point_12 = refl

pub remembered_of_an_unsimulated_point : reply_text false (0x68 ∷ 0x05 ∷ 0x05 ∷ 0x68 ∷ 0x85 ∷ 0x81 ∷ 0x6D ∷ 0x3C ∷ 0x3E ∷ 0xED ∷ 0x16 ∷ []) (0x68 ∷ 0x06 ∷ 0x06 ∷ 0x68 ∷ 0x81 ∷ 0x85 ∷ 0x08 ∷ 0x3E ∷ 0x33 ∷ 0x07 ∷ 0x86 ∷ 0x16 ∷ []) ≡ Some (codes "reply       to an earlier DSAP 51 (MSAC_C1, DP-V1: not simulated): data 07")
unfolding reply_text parts_in response_text sent_text diagnosis_words whole_text configuration_text identifiers_of meaning_text amount_text listed digits
remembered_of_an_unsimulated_point = refl

-- without data
pub status : reply_text false (0x10 ∷ 0x05 ∷ 0x01 ∷ 0x49 ∷ 0x4F ∷ 0x16 ∷ []) (0x10 ∷ 0x01 ∷ 0x05 ∷ 0x00 ∷ 0x06 ∷ 0x16 ∷ []) ≡ Some (codes "reply       slave station")
unfolding reply_text parts_in response_text sent_text diagnosis_words whole_text configuration_text identifiers_of meaning_text amount_text listed digits
status = refl

pub user_error : reply_text false (0x68 ∷ 0x05 ∷ 0x05 ∷ 0x68 ∷ 0x85 ∷ 0x81 ∷ 0x6D ∷ 0x3C ∷ 0x3E ∷ 0xED ∷ 0x16 ∷ []) (0x10 ∷ 0x01 ∷ 0x05 ∷ 0x01 ∷ 0x07 ∷ 0x16 ∷ []) ≡ Some (codes "reply       UE, user error")
unfolding reply_text parts_in response_text sent_text diagnosis_words whole_text configuration_text identifiers_of meaning_text amount_text listed digits
user_error = refl

pub no_resource : reply_text false (0x68 ∷ 0x05 ∷ 0x05 ∷ 0x68 ∷ 0x85 ∷ 0x81 ∷ 0x6D ∷ 0x3C ∷ 0x3E ∷ 0xED ∷ 0x16 ∷ []) (0x10 ∷ 0x01 ∷ 0x05 ∷ 0x02 ∷ 0x08 ∷ 0x16 ∷ []) ≡ Some (codes "reply       RR, no resource")
unfolding reply_text parts_in response_text sent_text diagnosis_words whole_text configuration_text identifiers_of meaning_text amount_text listed digits
no_resource = refl

pub not_activated : reply_text false (0x68 ∷ 0x05 ∷ 0x05 ∷ 0x68 ∷ 0x85 ∷ 0x81 ∷ 0x6D ∷ 0x3C ∷ 0x3E ∷ 0xED ∷ 0x16 ∷ []) (0x10 ∷ 0x01 ∷ 0x05 ∷ 0x03 ∷ 0x09 ∷ 0x16 ∷ []) ≡ Some (codes "reply       RS, not activated")
unfolding reply_text parts_in response_text sent_text diagnosis_words whole_text configuration_text identifiers_of meaning_text amount_text listed digits
not_activated = refl

pub another_code : reply_text false (0x68 ∷ 0x05 ∷ 0x05 ∷ 0x68 ∷ 0x85 ∷ 0x81 ∷ 0x6D ∷ 0x3C ∷ 0x3E ∷ 0xED ∷ 0x16 ∷ []) (0x10 ∷ 0x01 ∷ 0x05 ∷ 0x0B ∷ 0x11 ∷ 0x16 ∷ []) ≡ Some (codes "reply       FC 0b")
unfolding reply_text parts_in response_text sent_text diagnosis_words whole_text configuration_text identifiers_of meaning_text amount_text listed digits
another_code = refl

-- a short acknowledgement, and octets that are no frame
pub acknowledged : reply_text false (0x68 ∷ 0x07 ∷ 0x07 ∷ 0x68 ∷ 0x85 ∷ 0x81 ∷ 0x5D ∷ 0x3E ∷ 0x3E ∷ 0x21 ∷ 0x11 ∷ 0x11 ∷ 0x16 ∷ []) (0xE5 ∷ []) ≡ Some (codes "reply       SC, short acknowledgement")
unfolding reply_text parts_in response_text sent_text diagnosis_words whole_text configuration_text identifiers_of meaning_text amount_text listed digits
acknowledged = refl

-- a configuration that the slave refuses after its short acknowledgement; no other reply is marked
pub acknowledged_and_judged : reply_text true (0x68 ∷ 0x07 ∷ 0x07 ∷ 0x68 ∷ 0x85 ∷ 0x81 ∷ 0x5D ∷ 0x3E ∷ 0x3E ∷ 0x21 ∷ 0x11 ∷ 0x11 ∷ 0x16 ∷ []) (0xE5 ∷ []) ≡ Some (codes "reply       SC, short acknowledgement (judged afterwards)")
unfolding reply_text parts_in response_text sent_text diagnosis_words whole_text configuration_text identifiers_of meaning_text amount_text listed digits
acknowledged_and_judged = refl

pub inputs_are_not_judged : reply_text true (0x68 ∷ 0x05 ∷ 0x05 ∷ 0x68 ∷ 0x05 ∷ 0x01 ∷ 0x7D ∷ 0xAA ∷ 0x55 ∷ 0x82 ∷ 0x16 ∷ []) (0x68 ∷ 0x05 ∷ 0x05 ∷ 0x68 ∷ 0x01 ∷ 0x05 ∷ 0x08 ∷ 0x01 ∷ 0x02 ∷ 0x11 ∷ 0x16 ∷ []) ≡ Some (codes "reply       inputs 01 02")
unfolding reply_text parts_in response_text sent_text diagnosis_words whole_text configuration_text identifiers_of meaning_text amount_text listed digits
inputs_are_not_judged = refl

pub no_telegram : reply_text false (0x68 ∷ 0x05 ∷ 0x05 ∷ 0x68 ∷ 0x85 ∷ 0x81 ∷ 0x6D ∷ 0x3C ∷ 0x3E ∷ 0xED ∷ 0x16 ∷ []) (0x33 ∷ []) ≡ None
unfolding reply_text parts_in response_text sent_text diagnosis_words whole_text configuration_text identifiers_of meaning_text amount_text listed digits
no_telegram = refl
