-- detail
-- What a session has dropped of its stream (own).
use Rattle.std.specs.Prelude.{ℕ, ◌+◌, ◌-◌, ◌^◌, min, Bool, true, false, ◌||◌, List, ◌++◌, length, take, Option, Some, None}
use Rattle.dp_telegram.specs.declared.fault.FrameFault.{FrameFault}
use Rattle.dp_telegram.specs.declared.fault.FrameFault.TheVariants.{NoStart, BadHead, BadEnd, Short, Long}
use Rattle.dp_telegram.specs.WrongEnd.{wrong_end_of}
use Rattle.dp_sessions.specs.declared.dropped.DroppedOctets.{DroppedOctets}

abbrev pub is_no_start : FrameFault → Bool
is_no_start NoStart = true
is_no_start BadHead = false
is_no_start BadEnd = false
is_no_start Short = false
is_no_start Long = false

abbrev pub is_bad_head : FrameFault → Bool
is_bad_head NoStart = false
is_bad_head BadHead = true
is_bad_head BadEnd = false
is_bad_head Short = false
is_bad_head Long = false

abbrev pub is_bad_end : FrameFault → Bool
is_bad_end NoStart = false
is_bad_end BadHead = false
is_bad_end BadEnd = true
is_bad_end Short = false
is_bad_end Long = false

abbrev pub first_of_two : {A : Type 0} → Option A → Option A → Option A
first_of_two (Some first) second = Some first
first_of_two None second = second

-- with one piece more: its octets are counted, its fault is added, and of all octets the first 16 are kept
abbrev pub with_piece : DroppedOctets → FrameFault → List ℕ → DroppedOctets
with_piece dropped fault octets = record {
  count = min (dropped.count + length octets) (2 ^ 32 - 1);
  no_start = dropped.no_start || is_no_start fault;
  bad_head = dropped.bad_head || is_bad_head fault;
  bad_end = dropped.bad_end || is_bad_end fault;
  first = record { items = dropped.first.items ++ take (16 - length dropped.first.items) octets };
  wrong_end = first_of_two dropped.wrong_end (wrong_end_of octets);
}

-- with what was dropped later
abbrev pub with_later : DroppedOctets → DroppedOctets → DroppedOctets
with_later dropped later = record {
  count = min (dropped.count + later.count) (2 ^ 32 - 1);
  no_start = dropped.no_start || later.no_start;
  bad_head = dropped.bad_head || later.bad_head;
  bad_end = dropped.bad_end || later.bad_end;
  first = record { items = dropped.first.items ++ take (16 - length dropped.first.items) later.first.items };
  wrong_end = first_of_two dropped.wrong_end later.wrong_end;
}
