-- detail
-- A whole telegram that has no fault.
use Rattle.std.specs.Prelude.{◌≡◌, ℕ, ◌≤◌, true, List, length}
use Rattle.dp_telegram.specs.FrameText.{delimiter, end_is_right, frame_length, head_is_right, head_length, is_start}

-- what each row of the faults says of octets that have none
pub record HasNoFault (octets : List ℕ) : Type 0 where
  pub start : is_start (delimiter octets) ≡ true
  pub head : head_is_right octets ≡ true
  pub whole : length octets ≡ frame_length octets
  pub ends : end_is_right octets ≡ true
  pub some : 1 ≤ length octets
  pub there : head_length octets ≤ length octets
