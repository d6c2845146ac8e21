-- helper
-- A trail that caught up (own).
use Rattle.std.specs.Prelude.{ℕ, List}
use Rattle.dp_shared.specs.Passes.{PassIn}
use Rattle.audit_trail.specs.Named.{IsOneOf, TrailName}
use Rattle.audit_trail.specs.Trails.{SawAll}

-- One of these trails has seen, with its pass, all entries that there were at its last look.
pub record HasCaughtUp (trails : List TrailName) : Type 0 where
  pub pass : PassIn
  pub one : IsOneOf trails pass
  pub seen : ℕ
  pub all : ∥ SawAll pass.view.looks seen ∥₁
