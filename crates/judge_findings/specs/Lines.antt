-- detail
-- The judges of the masters of a line: each takes the entries of its master.
use Rattle.std.specs.Prelude.{ℕ, ◌+◌, ◌-◌, ◌^◌, ◌==◌, min, if◌then◌else◌, Bool, List, [], ◌∷◌, ◌++◌, map}
use Rattle.dp_line.specs.declared.event.Event.{Event}
use Rattle.dp_line.specs.declared.event.Event.TheVariants as events
use Rattle.dp_line.specs.declared.event.Op.TheVariants as ops
use Rattle.judge_rules.specs.declared.entry.Entry.{Entry}
use Rattle.judge_rules.specs.declared.rule.JudgeRule.{JudgeRule}
use Rattle.judge_findings.specs.declared.seat.Seat.{Seat}
use Rattle.judge_findings.specs.Counts.{counted, first_seat}
use Rattle.judge_findings.specs.Tested.{tested_after}

pub record LineJudgeView : Type 0 where
  pub seats : List Seat
  pub time : ℕ

abbrev pub first_seats : ℕ → List ℕ → List Seat
first_seats retries masters = map (λ master. first_seat master retries) masters

abbrev pub first_line_judge : List ℕ → ℕ → LineJudgeView
first_line_judge masters retries = record { seats = first_seats retries masters; time = 0 }

abbrev pub is_seat_of : ℕ → Seat → Bool
is_seat_of master seat = seat.master == master

-- the judge takes one more entry, and the rules that it breaks, of these, are counted
abbrev pub seat_after : Entry → ℕ → List JudgeRule → Seat → Seat
seat_after entry place rules seat = record seat {
  judge = record seat.judge { past = seat.judge.past ++ entry ∷ [] };
  counts = counted seat.judge entry place rules seat.counts;
  tested = tested_after entry seat.tested;
}

-- the first judge of the master takes the entry; all others are unchanged
abbrev pub taken_at : ℕ → Entry → ℕ → List JudgeRule → List Seat → List Seat
taken_at master entry place rules [] = []
taken_at master entry place rules (seat ∷ others) =
    if is_seat_of master seat then seat_after entry place rules seat ∷ others else seat ∷ taken_at master entry place rules others

-- a tick passes time, which stops at the largest number of 64 bits
abbrev pub time_with : ℕ → Event → ℕ
time_with time (events.Operator (ops.Tick units)) = min (time + units) (2 ^ 64 - 1)
time_with time other = time
