use Rattle.std.proofs.Common.{Bool, true, false, not, ap, refl, ◌≡◌, ◌∙◌}
use Rattle.std.specs.Prelude.{◌&&◌}
use Rattle.judge_rules.specs.declared.entry.Request.{Request}
use Rattle.judge_rules.specs.Entries.{exchange_asked}
use Rattle.judge_rules.proofs.Clears.{clear_since, never_clear, operates_since}
use Rattle.judge_rules.proofs.bus_laws.outputs_are_zero_after_clear_data.Goals as goal

on : (asks other : Bool) → (asks && true && other) ≡ (asks && other)
on true other = refl
on false other = refl

off : (asks other : Bool) → (asks && false && other) ≡ false
off true other = refl
off false other = refl

by : {clear value : Bool} (request : Request) → clear ≡ value → (exchange_asked request && clear && not request.payload.is_zero) ≡ (exchange_asked request && value && not request.payload.is_zero)
by request is = ap (λ (b : Bool). exchange_asked request && b && not request.payload.is_zero) is

pub returns-clause-clear : goal.returns-clause-clear
returns-clause-clear c limit front back control request is none =
    by request (clear_since front back control is none) ∙ on (exchange_asked request) (not request.payload.is_zero)

pub returns-clause-operate : goal.returns-clause-operate
returns-clause-operate c limit front back control request is none =
    by request (operates_since front back control is none) ∙ off (exchange_asked request) (not request.payload.is_zero)

pub returns-clause-never : goal.returns-clause-never
returns-clause-never c limit past request none = by request (never_clear past none) ∙ off (exchange_asked request) (not request.payload.is_zero)
