use Rattle.std.proofs.Common.{◌≡◌, ℕ, ◌+◌, ◌++◌, ap, arith, ◌∙◌}
use Rattle.std.specs.Prelude.{◌==◌}
use Rattle.std.proofs.lemmas.List.Sums.{fold-append}
use Rattle.judge_rules.specs.declared.bus.Bus.{Bus}
use Rattle.judge_rules.specs.declared.bus.Window.{Window}
use Rattle.judge_rules.specs.BusFacts.{bus_after, bus_of, new_bus, new_window}
use Rattle.judge_rules.specs.BusWords.{stray_count}
use Rattle.judge_rules.proofs.Windows.{begins, strays_are}
use Rattle.judge_rules.proofs.bus_laws.the_fourth_stray_of_a_hundred_entries_is_reported.Goals as goal

pub returns : goal.returns
returns c limit windows front back full within =
    let start : (bus_of front).window ≡ new_window = begins windows front full in
    let none : (bus_of front).window.strays ≡ 0 = ap (λ (w : Window). w.strays) start in
    let first : (bus_of front).window.entries ≡ 0 = ap (λ (w : Window). w.entries) start in
    let counted : (bus_of (front ++ back)).window.strays ≡ (bus_of front).window.strays + stray_count back =
    ap (λ (b : Bus). b.window.strays) (fold-append bus_after new_bus front back)
    ∙ strays_are (bus_of front) back (omega (arith, first, within)) (omega (arith, none, first)) in
    let strays : (bus_of (front ++ back)).window.strays ≡ stray_count back = omega (arith, none, counted) in
    ap (λ (k : ℕ). k == 3) strays
