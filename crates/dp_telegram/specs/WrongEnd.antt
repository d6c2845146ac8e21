-- detail
-- The end of a telegram whose end is wrong.
use Rattle.std.specs.Prelude.{ℕ, List, slice_index, Option, Some, None, ◌-◌}
use Rattle.dp_telegram.specs.declared.fault.FrameFault.{FrameFault}
use Rattle.dp_telegram.specs.declared.fault.FrameFault.TheVariants.{NoStart, BadHead, BadEnd, Short, Long}
use Rattle.dp_telegram.specs.declared.bad_end.WrongEnd.{WrongEnd}
use Rattle.dp_telegram.specs.FrameText.{body_at, check_sequence, fault_of, frame_length}

-- the last two octets of the telegram, and the check sequence of its body (IEC 61158-4-3, frame check sequence)
abbrev pub end_at : List ℕ → WrongEnd
end_at octets = record {
  check_sequence = slice_index octets (frame_length octets - 2);
  expected = check_sequence (body_at octets);
  end_delimiter = slice_index octets (frame_length octets - 1);
}

abbrev pub wrong_end_by : Option FrameFault → List ℕ → Option WrongEnd
wrong_end_by (Some BadEnd) octets = Some (end_at octets)
wrong_end_by (Some NoStart) octets = None
wrong_end_by (Some BadHead) octets = None
wrong_end_by (Some Short) octets = None
wrong_end_by (Some Long) octets = None
wrong_end_by None octets = None

-- the end of the telegram in front, if its head is right, it is whole, and its end is wrong (own)
abbrev pub wrong_end_of : List ℕ → Option WrongEnd
wrong_end_of octets = wrong_end_by (fault_of octets) octets
