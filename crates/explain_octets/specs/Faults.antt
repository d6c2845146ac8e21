-- detail
-- Octets that are no frame, in words (IEC 61158-4-3, frame formats).
use Rattle.std.specs.Prelude.{codes, ℕ, ◌==◌, not, if◌then◌else◌, List, ◌++◌, slice_index}
use Rattle.std.specs.Fmt.{decimal}
use Rattle.dp_telegram.specs.declared.bad_end.WrongEnd.{WrongEnd}
use Rattle.dp_telegram.specs.declared.fault.FrameFault.{FrameFault}
use Rattle.dp_telegram.specs.declared.fault.FrameFault.TheVariants as faults
use Rattle.dp_telegram.specs.FrameText.{sd2}
use Rattle.dp_telegram.specs.Names.{frame_fault_name}
use Rattle.dp_telegram.specs.WrongEnd.{end_at}
use Rattle.explain_octets.specs.Words.{hex_pair}

-- a wrong end: the check sequence and the right one, or the end delimiter if the check sequence is right (IEC 61158-4-3, frame check sequence)
abbrev pub wrong_end_text : WrongEnd → List ℕ
wrong_end_text wrong =
    if wrong.check_sequence == wrong.expected then codes "the end delimiter is " ++ hex_pair wrong.end_delimiter ++ codes ", not 16"
    else codes "the check sequence is " ++ hex_pair wrong.check_sequence ++ codes ", not " ++ hex_pair wrong.expected

-- a wrong head of an SD2 telegram, by its two length octets and its second start delimiter: the first fault of the three (IEC 61158-4-3, length octets)
abbrev pub wrong_head_text : ℕ → ℕ → ℕ → List ℕ
wrong_head_text first second start =
    if not (first == second) then codes "the length octets are " ++ hex_pair first ++ codes " and " ++ hex_pair second
    else if not (start == sd2) then codes "the second start delimiter is " ++ hex_pair start ++ codes ", not 68"
    else codes "the length is " ++ decimal first ++ codes ", of 4 to 249"

-- what is wrong with octets that have this fault (own)
abbrev pub frame_fault_words : FrameFault → List ℕ → List ℕ
frame_fault_words faults.NoStart octets = codes "the first octet is no start delimiter"
frame_fault_words faults.BadHead octets = wrong_head_text (slice_index octets 1) (slice_index octets 2) (slice_index octets 3)
frame_fault_words faults.BadEnd octets = wrong_end_text (end_at octets)
frame_fault_words faults.Short octets = codes "the frame is not whole"
frame_fault_words faults.Long octets = codes "octets follow the frame"

-- the name of a fault, and what is wrong
abbrev pub fault_text : FrameFault → List ℕ → List ℕ
fault_text fault octets = codes "no telegram: " ++ frame_fault_name fault ++ codes ", " ++ frame_fault_words fault octets
