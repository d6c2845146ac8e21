-- detail
-- Diagnoses in words (IEC 61158-6-3, Slave_Diag response).
use Rattle.std.specs.Prelude.{codes, ℕ, ◌==◌, nat_lt, Bool, if◌then◌else◌, List, [], ◌∷◌, ◌++◌, drop, length, slice_index}
use Rattle.std.specs.Fmt.{decimal}
use Rattle.dp_telegram.specs.FunctionCode.{is_set}
use Rattle.dp_diag.specs.DiagnosisText.{no_master}
use Rattle.explain_octets.specs.Words.{hex_text, ident_text, listed}
use Rattle.explain_octets.specs.Blocks.{blocks_of, blocks_text}

-- Station_status_1: the bits that a slave sets
abbrev pub status_1_rows : ℕ → List (Bool × List ℕ)
status_1_rows octet =
    (is_set 1 octet, codes "Station_Not_Ready")
    ∷ (is_set 2 octet, codes "Cfg_Fault")
    ∷ (is_set 3 octet, codes "Ext_Diag")
    ∷ (is_set 4 octet, codes "Not_Supported")
    ∷ (is_set 6 octet, codes "Prm_Fault")
    ∷ []

-- Station_status_2, except bit 2, which is always 1
abbrev pub status_2_rows : ℕ → List (Bool × List ℕ)
status_2_rows octet =
    (is_set 0 octet, codes "Prm_Req")
    ∷ (is_set 1 octet, codes "Stat_Diag")
    ∷ (is_set 3 octet, codes "WD_On")
    ∷ (is_set 4 octet, codes "Freeze_Mode")
    ∷ (is_set 5 octet, codes "Sync_Mode")
    ∷ []

-- Station_status_3
abbrev pub status_3_rows : ℕ → List (Bool × List ℕ)
status_3_rows octet = (is_set 7 octet, codes "Ext_Diag_Overflow") ∷ []

-- the names of the bits that are set, and a semicolon after them
abbrev pub status_text : List (Bool × List ℕ) → List ℕ
status_text rows = listed [] (codes "; ") rows

abbrev pub holder_text : ℕ → List ℕ
holder_text octet = if octet == no_master then codes "held by nobody" else codes "held by master " ++ decimal octet

-- the extended octets in hex, and in words if they have the form of blocks
abbrev pub extended_text : List ℕ → List ℕ
extended_text [] = []
extended_text (octet ∷ octets) = codes "; extended diagnosis " ++ hex_text (octet ∷ octets) ++ blocks_text (blocks_of (octet ∷ octets))

-- a diagnosis of at least six octets: three octets of bits, Master_Add, Ident_Number, the extended octets
unfoldable pub whole_text : List ℕ → List ℕ
whole_text octets =
    status_text (status_1_rows (slice_index octets 0))
    ++ status_text (status_2_rows (slice_index octets 1))
    ++ status_text (status_3_rows (slice_index octets 2))
    ++ holder_text (slice_index octets 3)
    ++ codes "; " ++ ident_text (slice_index octets 4) (slice_index octets 5)
    ++ extended_text (drop 6 octets)

-- a diagnosis; fewer than six octets are shown in hex
unfoldable pub diagnosis_words : List ℕ → List ℕ
diagnosis_words octets = if nat_lt (length octets) 6 then codes "data " ++ hex_text octets else whole_text octets
