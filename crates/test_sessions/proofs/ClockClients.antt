-- What a client of the clock concludes.
use Rattle.std.proofs.Common.{◌≡◌, ℕ, ◌+◌, ◌≤◌, Bool, true, false, List, [], ◌∷◌, ◌++◌, All, subst, sym, refl, ◌∙◌}
use Rattle.std.proofs.lemmas.List.Elements.{All-cons, All-nil}
use Rattle.dp_shared.specs.Content.{Content, world_now}
use Rattle.dp_shared.specs.LineLock.{FitsPass}
use Rattle.dp_shared.specs.declared.line_view.PassView.{PassView}
use Rattle.serve_clock.specs.declared.line_time.LineTime.{LineTime}
use Rattle.serve_clock.specs.Advances.{HasTicked, events_under, started, ticks_of, units_in}
use Rattle.serve_clock.specs.Moments.{advances_at_each, cut_off_in_all, first_time, time_after_all, units_passed}

-- what the laws of the clock say
abbrev pub TicksAll : Type 0
TicksAll = (time : LineTime) (moments : List ℕ) (pass : PassView) (content : Content) → HasTicked time moments pass → FitsPass content pass → pass.saw_halt ≡ false
    → events_under content pass.number ≡ ticks_of (advances_at_each (started time) moments)

abbrev pub HasUnits : Type 0
HasUnits = (tick : ℕ) (moments : List ℕ) (moment : ℕ) (pass : PassView) (content : Content) → All (λ earlier. earlier ≤ moment) moments
    → HasTicked (time_after_all (first_time tick) (moments ++ moment ∷ [])) (moments ++ moment ∷ []) pass → FitsPass content pass → pass.saw_halt ≡ false
    → units_in (events_under content pass.number) + cut_off_in_all (advances_at_each (first_time tick) (moments ++ moment ∷ [])) ≡ units_passed moment

unseen : (saw halted : Bool) → (saw ≡ true → halted ≡ true) → halted ≡ false → saw ≡ false
unseen true halted says running = (let no : true ≡ false = sym (says refl) ∙ running in absurd cc)
unseen false halted says running = refl

one_within : (first second : ℕ) → first ≤ second → All (λ earlier. earlier ≤ second) (first ∷ [])
one_within first second order = All-cons (λ earlier. earlier ≤ second) first [] order (All-nil (λ earlier. earlier ≤ second))

pub ticked_twice : TicksAll → HasUnits → (tick first second : ℕ) (time : LineTime) (moments : List ℕ) (pass : PassView) (content : Content)
    → time ≡ time_after_all (first_time tick) (first ∷ second ∷ []) → moments ≡ first ∷ second ∷ [] → HasTicked time moments pass → FitsPass content pass
    → (number : ℕ)
    × ((world_now content).halted ≡ false → events_under content number ≡ ticks_of (advances_at_each (first_time tick) (first ∷ second ∷ [])))
    × ((world_now content).halted ≡ false → first ≤ second
    → units_in (events_under content number) + cut_off_in_all (advances_at_each (first_time tick) (first ∷ second ∷ [])) ≡ units_passed second)
ticked_twice ticks units tick first second time moments pass content is they ticked fits =
    let both : HasTicked (time_after_all (first_time tick) (first ∷ second ∷ [])) (first ∷ second ∷ []) pass =
    subst (λ (l : List ℕ). HasTicked (time_after_all (first_time tick) (first ∷ second ∷ [])) l pass) they (subst (λ (t : LineTime). HasTicked t moments pass) is ticked) in (
      pass.number,
      λ running. ticks (time_after_all (first_time tick) (first ∷ second ∷ [])) (first ∷ second ∷ []) pass content both fits (unseen pass.saw_halt (world_now content).halted fits.saw_halt running),
      λ running order. units tick (first ∷ []) second pass content (one_within first second order) both fits (unseen pass.saw_halt (world_now content).halted fits.saw_halt running),
    )
