-- How many entries and stray octets a window of a hundred has.
use Rattle.std.proofs.Common.{◌≡◌, ℕ, ◌+◌, ◌*◌, ◌<◌, ◌≤◌, Bool, true, false, not, List, [], ◌∷◌, ap, refl, sym, arith, ◌∙◌}
use Rattle.std.specs.Prelude.{cond, min, nat_le, if◌then◌else◌}
use Rattle.std.specs.List.{fold}
use Rattle.std.proofs.lemmas.List.Sums.{sum_by-cons}
use Rattle.judge_rules.specs.declared.bus.Bus.{Bus}
use Rattle.judge_rules.specs.declared.bus.Window.{Window}
use Rattle.judge_rules.specs.declared.entry.Entry.{Entry}
use Rattle.judge_rules.specs.declared.entry.Entry.TheVariants as entries
use Rattle.judge_rules.specs.BusFacts.{bus_after, bus_of, new_bus, new_window, window_after}
use Rattle.judge_rules.specs.BusWords.{entry_count, is_stray, is_token, stray_count}

-- the window after a number of entries: how many of them are in it, and that an empty one is new
pub record Place (window : Window) (count : ℕ) : Type 0 where
  windows : ℕ
  sum : count ≡ windows * 100 + window.entries
  within : window.entries ≤ 99
  empty : window.entries ≡ 0 → window ≡ new_window

step_by : (window : Window) (count : ℕ) (stray full : Bool) → nat_le 99 window.entries ≡ full → Place window count
    → Place (if full then new_window else record { entries = window.entries + 1; strays = if stray then min (window.strays + 1) 255 else window.strays }) (count + 1)
step_by window count stray true is place =
    let at : window.entries ≡ 99 = grind (arith, is, place.within) in
    record { windows = place.windows + 1; sum = omega (arith, at, place.sum); within = omega arith; empty = λ e. refl }
step_by window count stray false is place =
    let below : window.entries < 99 = grind (arith, is) in
    record { windows = place.windows; sum = omega (arith, place.sum); within = omega (arith, below); empty = λ e. absurd (omega (arith, e)) }

step : (window : Window) (count : ℕ) (stray : Bool) → Place window count → Place (window_after window stray) (count + 1)
step window count stray place = step_by window count stray (nat_le 99 window.entries) refl place

moved : (window : Window) (a b : ℕ) → a ≡ b → Place window a → Place window b
moved window a b same place = record { windows = place.windows; sum = sym same ∙ place.sum; within = place.within; empty = place.empty }

pub place_of : (bus : Bus) (count : ℕ) (past : List Entry) → Place bus.window count → Place (fold bus_after bus past).window (count + entry_count past)
place_of bus count [] place = moved bus.window count (count + entry_count []) (omega arith) place
place_of bus count (entries.Request request ∷ past) place =
    let sum : entry_count (entries.Request request ∷ past) ≡ 1 + entry_count past = sum_by-cons (λ entry. cond (not (is_token entry)) 1 0) (entries.Request request) past in
    moved (fold bus_after bus (entries.Request request ∷ past)).window (count + 1 + entry_count past) (count + entry_count (entries.Request request ∷ past)) (omega (arith, sum))
    (place_of (bus_after bus (entries.Request request)) (count + 1) past (step bus.window count false place))
place_of bus count (entries.Stray ∷ past) place =
    let sum : entry_count (entries.Stray ∷ past) ≡ 1 + entry_count past = sum_by-cons (λ entry. cond (not (is_token entry)) 1 0) entries.Stray past in
    moved (fold bus_after bus (entries.Stray ∷ past)).window (count + 1 + entry_count past) (count + entry_count (entries.Stray ∷ past)) (omega (arith, sum))
    (place_of (bus_after bus entries.Stray) (count + 1) past (step bus.window count true place))
place_of bus count (entries.PassedToken to ∷ past) place =
    let sum : entry_count (entries.PassedToken to ∷ past) ≡ 0 + entry_count past = sum_by-cons (λ entry. cond (not (is_token entry)) 1 0) (entries.PassedToken to) past in
    moved (fold bus_after bus (entries.PassedToken to ∷ past)).window (count + entry_count past) (count + entry_count (entries.PassedToken to ∷ past)) (omega (arith, sum))
    (place_of (bus_after bus (entries.PassedToken to)) count past place)

pub begins : (windows : ℕ) (front : List Entry) → entry_count front ≡ windows * 100 → (bus_of front).window ≡ new_window
begins windows front is =
    let place : Place (bus_of front).window (0 + entry_count front) = place_of new_bus 0 front (record { windows = 0; sum = refl; within = omega arith; empty = λ e. refl }) in
    place.empty (omega (arith, place.sum, place.within, is))

-- within a window the strays are counted
abbrev window_with : ℕ → ℕ → Window
window_with count strays = record { entries = count; strays = strays }

not_full : (n : ℕ) → n < 99 → nat_le 99 n ≡ false
not_full n below = grind (arith, below)

least : (n : ℕ) → n < 99 → min (n + 1) 255 ≡ n + 1
least n below = omega arith

inside : (window : Window) (stray : Bool) → window.entries < 99 → window.strays ≤ window.entries
    → window_after window stray ≡ window_with (window.entries + 1) (window.strays + cond stray 1 0)
inside window true below few =
    ap (λ (b : Bool). if b then new_window else window_with (window.entries + 1) (min (window.strays + 1) 255)) (not_full window.entries below)
    ∙ ap (λ (k : ℕ). window_with (window.entries + 1) k) (least window.strays (omega (arith, below, few)))
inside window false below few =
    let same : window.strays ≡ window.strays + 0 = omega arith in
    ap (λ (b : Bool). if b then new_window else window_with (window.entries + 1) window.strays) (not_full window.entries below)
    ∙ ap (λ (k : ℕ). window_with (window.entries + 1) k) same

one_at_most : (b : Bool) → cond b 1 0 ≤ 1
one_at_most true = omega arith
one_at_most false = omega arith

next : (bus after : Window) (left counted more strays rest : ℕ) (stray : Bool) → after ≡ window_after bus stray
    → counted ≡ 1 + more → strays ≡ cond stray 1 0 + rest → bus.entries + counted < 100 → bus.strays ≤ bus.entries
    → (after.entries + more < 100 → after.strays ≤ after.entries → left ≡ after.strays + rest) → left ≡ bus.strays + strays
next bus after left counted more strays rest stray is sum stray_sum within few rec =
    let below : bus.entries < 99 = omega (arith, sum, within) in
    let at : after ≡ window_with (bus.entries + 1) (bus.strays + cond stray 1 0) = is ∙ inside bus stray below few in
    let count_is : after.entries ≡ bus.entries + 1 = ap (λ (w : Window). w.entries) at in
    let strays_is : after.strays ≡ bus.strays + cond stray 1 0 = ap (λ (w : Window). w.strays) at in
    let at_most : cond stray 1 0 ≤ 1 = one_at_most stray in
    let there : left ≡ after.strays + rest = rec (omega (arith, count_is, sum, within)) (omega (arith, count_is, strays_is, few, at_most)) in
    omega (arith, there, strays_is, stray_sum)

pub strays_are : (bus : Bus) (past : List Entry) → bus.window.entries + entry_count past < 100 → bus.window.strays ≤ bus.window.entries
    → (fold bus_after bus past).window.strays ≡ bus.window.strays + stray_count past
strays_are bus [] within few = omega arith
strays_are bus (entries.Request request ∷ past) within few =
    next bus.window (bus_after bus (entries.Request request)).window (fold bus_after bus (entries.Request request ∷ past)).window.strays
    (entry_count (entries.Request request ∷ past)) (entry_count past) (stray_count (entries.Request request ∷ past)) (stray_count past) false refl
    (sum_by-cons (λ entry. cond (not (is_token entry)) 1 0) (entries.Request request) past) (sum_by-cons (λ entry. cond (is_stray entry) 1 0) (entries.Request request) past) within few
    (strays_are (bus_after bus (entries.Request request)) past)
strays_are bus (entries.Stray ∷ past) within few =
    next bus.window (bus_after bus entries.Stray).window (fold bus_after bus (entries.Stray ∷ past)).window.strays
    (entry_count (entries.Stray ∷ past)) (entry_count past) (stray_count (entries.Stray ∷ past)) (stray_count past) true refl
    (sum_by-cons (λ entry. cond (not (is_token entry)) 1 0) entries.Stray past) (sum_by-cons (λ entry. cond (is_stray entry) 1 0) entries.Stray past) within few
    (strays_are (bus_after bus entries.Stray) past)
strays_are bus (entries.PassedToken to ∷ past) within few =
    let sum : entry_count (entries.PassedToken to ∷ past) ≡ 0 + entry_count past = sum_by-cons (λ entry. cond (not (is_token entry)) 1 0) (entries.PassedToken to) past in
    let strays : stray_count (entries.PassedToken to ∷ past) ≡ 0 + stray_count past = sum_by-cons (λ entry. cond (is_stray entry) 1 0) (entries.PassedToken to) past in
    let left : (fold bus_after bus (entries.PassedToken to ∷ past)).window.strays ≡ bus.window.strays + stray_count past =
    strays_are (bus_after bus (entries.PassedToken to)) past (omega (arith, within, sum)) few in
    omega (arith, left, strays)
