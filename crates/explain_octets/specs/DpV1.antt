-- detail
-- User parameters in the form of DP-V1, in words (IEC 61158-6-3, DPV1_Status_1 to DPV1_Status_3).
use Rattle.std.specs.Prelude.{codes, ℕ, ◌%◌, ◌==◌, ◌&&◌, ◌||◌, not, Bool, if◌then◌else◌, List, [], ◌∷◌, ◌++◌}
use Rattle.std.specs.Fmt.{decimal}
use Rattle.dp_telegram.specs.FunctionCode.{is_set}
use Rattle.explain_octets.specs.Words.{listed}

-- the reserved bits of three octets are 0, and not all three octets are 0 (own)
unfoldable pub has_dp_v1_form : ℕ → ℕ → ℕ → Bool
has_dp_v1_form first second third =
    not (is_set 4 first || is_set 3 first || is_set 1 second || is_set 6 third || is_set 5 third)
    && not (first == 0 && second == 0 && third == 0)

-- bits 2 to 0 of the third octet are the alarm mode, which is shown if it is not 0
abbrev pub bits_2_0 : ℕ → ℕ
bits_2_0 octet = octet % 8

abbrev pub has_alarm_mode : ℕ → Bool
has_alarm_mode third = not (bits_2_0 third == 0)

abbrev pub alarm_mode_text : ℕ → List ℕ
alarm_mode_text third = codes "Alarm_Mode " ++ decimal (bits_2_0 third)

-- the bits of the three octets, the highest bit of each first
abbrev pub dp_v1_rows : ℕ → ℕ → ℕ → List (Bool × List ℕ)
dp_v1_rows first second third =
    (is_set 7 first, codes "DPV1_Enable")
    ∷ (is_set 6 first, codes "Fail_Safe")
    ∷ (is_set 5 first, codes "Publisher_Enable")
    ∷ (is_set 2 first, codes "WD_Base_1ms")
    ∷ (is_set 1 first, codes "Dis_Stopbit_Control")
    ∷ (is_set 0 first, codes "Dis_Startbit_Control")
    ∷ (is_set 7 second, codes "Enable_Pull_Plug_Alarm")
    ∷ (is_set 6 second, codes "Enable_Process_Alarm")
    ∷ (is_set 5 second, codes "Enable_Diagnostic_Alarm")
    ∷ (is_set 4 second, codes "Enable_Manufacturer_Specific_Alarm")
    ∷ (is_set 3 second, codes "Enable_Status_Alarm")
    ∷ (is_set 2 second, codes "Enable_Update_Alarm")
    ∷ (is_set 0 second, codes "Chk_Cfg_Mode")
    ∷ (is_set 7 third, codes "Prm_Cmd")
    ∷ (is_set 4 third, codes "IsoM_Req")
    ∷ (is_set 3 third, codes "Prm_Structure")
    ∷ (has_alarm_mode third, alarm_mode_text third)
    ∷ []

-- the names of the bits that are 1
unfoldable pub dp_v1_names : ℕ → ℕ → ℕ → List ℕ
dp_v1_names first second third = listed [] [] (dp_v1_rows first second third)

-- the names, after a space and in parentheses; nothing for user parameters of another form
abbrev pub dp_v1_text : List ℕ → List ℕ
dp_v1_text [] = []
dp_v1_text (first ∷ []) = []
dp_v1_text (first ∷ second ∷ []) = []
dp_v1_text (first ∷ second ∷ third ∷ others) =
    if has_dp_v1_form first second third then codes " (" ++ dp_v1_names first second third ++ codes ")" else []
