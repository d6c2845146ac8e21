-- When a Global_Control last went to all stations.
use Rattle.std.proofs.Common.{◌≡◌, ℕ, Bool, true, false, not, List, [], ◌∷◌, ◌++◌, ap, refl, sym, ◌∙◌}
use Rattle.std.specs.Prelude.{if◌then◌else◌}
use Rattle.std.specs.List.{fold}
use Rattle.std.proofs.lemmas.Bool.{and_parts, cond-true, cond-false}
use Rattle.std.proofs.lemmas.List.Sums.{fold-append}
use Rattle.judge_rules.specs.declared.bus.Bus.{Bus}
use Rattle.judge_rules.specs.declared.entry.Entry.{Entry}
use Rattle.judge_rules.specs.declared.entry.Entry.TheVariants as entries
use Rattle.judge_rules.specs.declared.entry.Request.{Request}
use Rattle.judge_rules.specs.BusFacts.{bus_after, bus_of, controls_all, new_bus}
use Rattle.judge_rules.specs.BusWords.{have_no_control_to_all, is_control_to_all}

not_true : (b : Bool) → not b ≡ true → b ≡ false
not_true true is = absurd cc
not_true false is = refl

kept : (time : ℕ) (bus : Bus) (past : List Entry) → bus.controlled ≡ time → have_no_control_to_all past ≡ true → (fold bus_after bus past).controlled ≡ time
kept time bus [] now none = now
kept time bus (entries.Request request ∷ past) now none =
    let parts = and_parts (not (is_control_to_all (entries.Request request))) (have_no_control_to_all past) none in
    kept time (bus_after bus (entries.Request request)) past
    (cond-false (controls_all request) request.time bus.controlled (not_true (controls_all request) parts.0) ∙ now) parts.1
kept time bus (entries.PassedToken to ∷ past) now none = kept time (bus_after bus (entries.PassedToken to)) past now none
kept time bus (entries.Stray ∷ past) now none = kept time (bus_after bus entries.Stray) past now none

pub never_controlled : (past : List Entry) → have_no_control_to_all past ≡ true → (bus_of past).controlled ≡ 0
never_controlled past none = kept 0 new_bus past refl none

pub controlled_at : (front back : List Entry) (control : Request) → is_control_to_all (entries.Request control) ≡ true → have_no_control_to_all back ≡ true
    → (bus_of (front ++ entries.Request control ∷ back)).controlled ≡ control.time
controlled_at front back control is none =
    ap (λ (b : Bus). b.controlled) (fold-append bus_after new_bus front (entries.Request control ∷ back))
    ∙ kept control.time (bus_after (bus_of front) (entries.Request control)) back (cond-true (controls_all control) control.time (bus_of front).controlled is) none

-- it depends on no other entry
same : (one other : Bus) (past : List Entry) → one.controlled ≡ other.controlled → (fold bus_after one past).controlled ≡ (fold bus_after other past).controlled
same one other [] is = is
same one other (entries.Request request ∷ past) is =
    same (bus_after one (entries.Request request)) (bus_after other (entries.Request request)) past
    (ap (λ (n : ℕ). if controls_all request then request.time else n) is)
same one other (entries.PassedToken to ∷ past) is = same (bus_after one (entries.PassedToken to)) (bus_after other (entries.PassedToken to)) past is
same one other (entries.Stray ∷ past) is = same (bus_after one entries.Stray) (bus_after other entries.Stray) past is

unchanged : (bus : Bus) (entry : Entry) → is_control_to_all entry ≡ false → (bus_after bus entry).controlled ≡ bus.controlled
unchanged bus (entries.Request request) is = cond-false (controls_all request) request.time bus.controlled is
unchanged bus (entries.PassedToken to) is = refl
unchanged bus entries.Stray is = refl

pub same_without : (front back : List Entry) (entry : Entry) → is_control_to_all entry ≡ false → (bus_of (front ++ entry ∷ back)).controlled ≡ (bus_of (front ++ back)).controlled
same_without front back entry is =
    ap (λ (b : Bus). b.controlled) (fold-append bus_after new_bus front (entry ∷ back))
    ∙ same (bus_after (bus_of front) entry) (bus_of front) back (unchanged (bus_of front) entry is)
    ∙ sym (ap (λ (b : Bus). b.controlled) (fold-append bus_after new_bus front back))
