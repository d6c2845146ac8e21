-- Whether Clear_Data is in force, and what a Set_Prm has asked for.
use Rattle.std.proofs.Common.{◌≡◌, Bool, true, false, not, List, [], ◌∷◌, ◌++◌, Option, Some, None, ap, refl, sym, ◌∙◌}
use Rattle.std.specs.Prelude.{◌&&◌, ◌||◌, if◌then◌else◌}
use Rattle.std.specs.List.{fold}
use Rattle.std.proofs.lemmas.Bool.{and_parts}
use Rattle.std.proofs.lemmas.List.Sums.{fold-append}
use Rattle.judge_rules.specs.declared.bus.Bus.{Bus}
use Rattle.judge_rules.specs.declared.entry.Control.{Control}
use Rattle.judge_rules.specs.declared.entry.Entry.{Entry}
use Rattle.judge_rules.specs.declared.entry.Entry.TheVariants as entries
use Rattle.judge_rules.specs.declared.entry.Request.{Request}
use Rattle.judge_rules.specs.BusFacts.{asks_freeze, asks_sync, bus_after, bus_of, clear_after, clear_by, clears, new_bus}
use Rattle.judge_rules.specs.BusWords.{have_no_clear_to_all, have_no_freeze_prm, have_no_operate, have_no_sync_prm, is_clear_to_all, is_operate, sets_clear, sets_operate}
use Rattle.judge_rules.specs.Entries.{control_asked}
use Rattle.judge_rules.proofs.Bools.{and_true}

stays_by : (clear all : Bool) → not (not clear) ≡ true → (if clear then true || all else false) ≡ true
stays_by true all none = refl
stays_by false all none = absurd cc

stays : (request : Request) (control : Option Control) → not (sets_operate control) ≡ true → clear_by true request control ≡ true
stays request None none = refl
stays request (Some control) none = stays_by control.clear (clears control request) none

ends_by : (clear all : Bool) → not (clear && all) ≡ true → (if clear then false || all else false) ≡ false
ends_by true true none = absurd cc
ends_by true false none = refl
ends_by false all none = refl

-- what isn't in force doesn't begin
begins_not : (request : Request) (control : Option Control) → not (sets_clear request control) ≡ true → clear_by false request control ≡ false
begins_not request None none = refl
begins_not request (Some control) none = ends_by control.clear (clears control request) none

kept : (bus : Bus) (past : List Entry) → bus.is_clear ≡ true → have_no_operate past ≡ true → (fold bus_after bus past).is_clear ≡ true
kept bus [] now none = now
kept bus (entries.Request request ∷ past) now none =
    let parts = and_parts (not (is_operate (entries.Request request))) (have_no_operate past) none in
    kept (bus_after bus (entries.Request request)) past (ap (λ (b : Bool). clear_after b request) now ∙ stays request (control_asked request) parts.0) parts.1
kept bus (entries.PassedToken to ∷ past) now none = kept (bus_after bus (entries.PassedToken to)) past now none
kept bus (entries.Stray ∷ past) now none = kept (bus_after bus entries.Stray) past now none

kept_off : (bus : Bus) (past : List Entry) → bus.is_clear ≡ false → have_no_clear_to_all past ≡ true → (fold bus_after bus past).is_clear ≡ false
kept_off bus [] now none = now
kept_off bus (entries.Request request ∷ past) now none =
    let parts = and_parts (not (is_clear_to_all (entries.Request request))) (have_no_clear_to_all past) none in
    kept_off (bus_after bus (entries.Request request)) past (ap (λ (b : Bool). clear_after b request) now ∙ begins_not request (control_asked request) parts.0) parts.1
kept_off bus (entries.PassedToken to ∷ past) now none = kept_off (bus_after bus (entries.PassedToken to)) past now none
kept_off bus (entries.Stray ∷ past) now none = kept_off (bus_after bus entries.Stray) past now none

set_by : (old clear all : Bool) → (clear && all) ≡ true → (if clear then old || all else false) ≡ true
set_by true true true is = refl
set_by false true true is = refl
set_by old true false is = absurd cc
set_by old false all is = absurd cc

sets : (old : Bool) (request : Request) (control : Option Control) → sets_clear request control ≡ true → clear_by old request control ≡ true
sets old request None is = absurd cc
sets old request (Some control) is = set_by old control.clear (clears control request) is

unset_by : (old clear all : Bool) → not clear ≡ true → (if clear then old || all else false) ≡ false
unset_by old true all is = absurd cc
unset_by old false all is = refl

unsets : (old : Bool) (request : Request) (control : Option Control) → sets_operate control ≡ true → clear_by old request control ≡ false
unsets old request None is = absurd cc
unsets old request (Some control) is = unset_by old control.clear (clears control request) is

pub clear_since : (front back : List Entry) (control : Request) → is_clear_to_all (entries.Request control) ≡ true → have_no_operate back ≡ true
    → (bus_of (front ++ entries.Request control ∷ back)).is_clear ≡ true
clear_since front back control is none =
    ap (λ (b : Bus). b.is_clear) (fold-append bus_after new_bus front (entries.Request control ∷ back))
    ∙ kept (bus_after (bus_of front) (entries.Request control)) back (sets (bus_of front).is_clear control (control_asked control) is) none

pub operates_since : (front back : List Entry) (control : Request) → is_operate (entries.Request control) ≡ true → have_no_clear_to_all back ≡ true
    → (bus_of (front ++ entries.Request control ∷ back)).is_clear ≡ false
operates_since front back control is none =
    ap (λ (b : Bus). b.is_clear) (fold-append bus_after new_bus front (entries.Request control ∷ back))
    ∙ kept_off (bus_after (bus_of front) (entries.Request control)) back (unsets (bus_of front).is_clear control (control_asked control) is) none

pub never_clear : (past : List Entry) → have_no_clear_to_all past ≡ true → (bus_of past).is_clear ≡ false
never_clear past none = kept_off new_bus past refl none

-- ---- what a Set_Prm asked for

neither : (old now none : Bool) → (not (old || now) && none) ≡ (not old && (not now && none))
neither true now none = refl
neither false true none = refl
neither false false none = refl

freeze_by : (bus : Bus) (past : List Entry) → not (fold bus_after bus past).freeze_asked ≡ (not bus.freeze_asked && have_no_freeze_prm past)
freeze_by bus [] = sym (and_true (not bus.freeze_asked))
freeze_by bus (entries.Request request ∷ past) =
    freeze_by (bus_after bus (entries.Request request)) past ∙ neither bus.freeze_asked (asks_freeze request) (have_no_freeze_prm past)
freeze_by bus (entries.PassedToken to ∷ past) = freeze_by (bus_after bus (entries.PassedToken to)) past
freeze_by bus (entries.Stray ∷ past) = freeze_by (bus_after bus entries.Stray) past

pub freeze_never : (past : List Entry) → not (bus_of past).freeze_asked ≡ have_no_freeze_prm past
freeze_never past = freeze_by new_bus past

sync_by : (bus : Bus) (past : List Entry) → not (fold bus_after bus past).sync_asked ≡ (not bus.sync_asked && have_no_sync_prm past)
sync_by bus [] = sym (and_true (not bus.sync_asked))
sync_by bus (entries.Request request ∷ past) =
    sync_by (bus_after bus (entries.Request request)) past ∙ neither bus.sync_asked (asks_sync request) (have_no_sync_prm past)
sync_by bus (entries.PassedToken to ∷ past) = sync_by (bus_after bus (entries.PassedToken to)) past
sync_by bus (entries.Stray ∷ past) = sync_by (bus_after bus entries.Stray) past

pub sync_never : (past : List Entry) → not (bus_of past).sync_asked ≡ have_no_sync_prm past
sync_never past = sync_by new_bus past
