use Rattle.std.proofs.Common.{◌≡◌, ℕ, List, [], ◌∷◌, ◌++◌, ◌∙◌, ap, subst, sym}
use Rattle.std.specs.List.{AllByRecursion}
use Rattle.dp_shared.specs.LineLock.{IsPassOf}
use Rattle.dp_shared.specs.Passes.{PassIn}
use Rattle.serve_clock.specs.declared.line_time.LineTime.{LineTime}
use Rattle.serve_clock.specs.Advances.{HasTicked}
use Rattle.serve_clock.specs.Moments.{time_after}
use Rattle.test_sessions.proofs.ClockClients.{ticked_twice}
use Rattle.test_sessions.proofs.clock_clients.tick_twice.Goals as goal

pub returns : goal.returns
returns g c =
    let first = c.args.first in
    let second = c.args.second in
    let ticker = c.advance-2.new.self in
    let closed = c.in-Ok-close_with.closed in
    let items : c.push_reserved.new.self.items ≡ c.close.result ∷ [] =
    ◌∙◌ {A = List PassIn} c.push_reserved.ensures.items (ap (λ (l : List PassIn). l ++ c.close.result ∷ []) c.in-Ok.ensures.items) in
    let of_line : IsPassOf closed c.close.result.view = (subst (AllByRecursion (λ (pass : PassIn). IsPassOf closed pass.view)) items c.in-Ok-close_with.ensures.closed.4).0 in
    let time = c.advance-2.ensures.time ∙ ap (λ (t : LineTime). time_after t second) (c.advance.ensures.time ∙ ap (λ (t : LineTime). time_after t first) c.in_ok-ticker.ensures.time) in
    let moments = c.advance-2.ensures.moments ∙ ap (λ (l : List ℕ). l ++ second ∷ []) (c.advance.ensures.moments ∙ ap (λ (l : List ℕ). l ++ first ∷ []) c.in_ok-ticker.ensures.moments) in
    ticked_twice c.the_ticks_are_the_time_that_passed.ensures.ticks c.the_ticks_are_the_time_that_passed.ensures.units c.args.tick first second ticker.time ticker.moments.items c.close.result.view closed
    time moments (subst (λ (pass : PassIn). HasTicked ticker.time ticker.moments.items pass.view) (sym c.close.ensures) c.prove_ticked.ensures) of_line.fits
