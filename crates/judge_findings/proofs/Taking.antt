-- The judge of a master takes an entry at its index.
use Rattle.std.proofs.Common.{◌≡◌, ℕ, suc, ◌+◌, ◌≤◌, Bool, true, false, cond, not, List, [], ◌∷◌, Some, None, length, get_or, refl, ap, sym, arith}
use Rattle.std.proofs.Math.ListN.{set}
use Rattle.std.specs.Prelude.{nat_lt}
use Rattle.std.specs.List.{position, position_or_len}
use Rattle.std.proofs.lemmas.Bool.{ltb-false}
use Rattle.std.proofs.lemmas.Option.{cond_some}
use Rattle.judge_rules.specs.declared.entry.Entry.{Entry}
use Rattle.judge_rules.specs.declared.rule.JudgeRule.{JudgeRule}
use Rattle.judge_findings.specs.declared.seat.Seat.{Seat}
use Rattle.judge_findings.specs.Lines.{is_seat_of, seat_after, taken_at}

set_by : (entry : Entry) (place : ℕ) (rules : List JudgeRule) (first : Seat) (others rest : List Seat) (index behind : ℕ) (default : Seat) (b : Bool)
    → index ≡ cond (not b) (1 + behind) 0 → set others behind (seat_after entry place rules (get_or others behind default)) ≡ rest
    → set (first ∷ others) index (seat_after entry place rules (get_or (first ∷ others) index default)) ≡ cond b (seat_after entry place rules first ∷ others) (first ∷ rest)
set_by entry place rules first others rest index behind default true at same = rw at refl
set_by entry place rules first others rest index behind default false at same =
    let next : index ≡ suc behind = omega (arith, at) in rw next (ap (λ (seats : List Seat). first ∷ seats) same)

set_first : (master : ℕ) (entry : Entry) (place : ℕ) (rules : List JudgeRule) (seats : List Seat) (index : ℕ) (default : Seat)
    → index ≡ position_or_len (is_seat_of master) seats → set seats index (seat_after entry place rules (get_or seats index default)) ≡ taken_at master entry place rules seats
set_first master entry place rules [] index default at = refl
set_first master entry place rules (first ∷ others) index default at =
    let behind = position_or_len (is_seat_of master) others in
    set_by entry place rules first others (taken_at master entry place rules others) index behind default (is_seat_of master first) at
    (set_first master entry place rules others behind default refl)

-- the judge that is found takes the entry
pub taken_at_found : (master : ℕ) (entry : Entry) (place : ℕ) (rules : List JudgeRule) (seats : List Seat) (index : ℕ) (default : Seat)
    → Some index ≡ position (is_seat_of master) seats → set seats index (seat_after entry place rules (get_or seats index default)) ≡ taken_at master entry place rules seats
taken_at_found master entry place rules seats index default found =
    let at = position_or_len (is_seat_of master) seats in
    set_first master entry place rules seats index default (sym ((cond_some (nat_lt at (length seats)) at index (sym found)).1))

same_by : (first changed : Seat) (others rest : List Seat) (behind : ℕ) (b : Bool) → length (first ∷ others) ≤ cond (not b) (1 + behind) 0
    → (length others ≤ behind → rest ≡ others) → cond b (changed ∷ others) (first ∷ rest) ≡ first ∷ others
same_by first changed others rest behind true past same = absurd (omega arith)
same_by first changed others rest behind false past same = ap (λ (seats : List Seat). first ∷ seats) (same (omega arith))

same_past : (master : ℕ) (entry : Entry) (place : ℕ) (rules : List JudgeRule) (seats : List Seat) → length seats ≤ position_or_len (is_seat_of master) seats
    → taken_at master entry place rules seats ≡ seats
same_past master entry place rules [] past = refl
same_past master entry place rules (first ∷ others) past =
    same_by first (seat_after entry place rules first) others (taken_at master entry place rules others) (position_or_len (is_seat_of master) others) (is_seat_of master first) past
    (same_past master entry place rules others)

none_by : (b : Bool) (index : ℕ) → None ≡ cond b (Some index) None → b ≡ false
none_by true index none = absurd cc
none_by false index none = refl

-- if there is none, nothing is changed
pub taken_at_none : (master : ℕ) (entry : Entry) (place : ℕ) (rules : List JudgeRule) (seats : List Seat) → None ≡ position (is_seat_of master) seats
    → taken_at master entry place rules seats ≡ seats
taken_at_none master entry place rules seats none =
    let at = position_or_len (is_seat_of master) seats in
    same_past master entry place rules seats (ltb-false at (length seats) (none_by (nat_lt at (length seats)) at none))
