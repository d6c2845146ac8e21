-- promise
-- A cable without faults (own).
use Rattle.std.specs.Prelude.{◌≡◌, false, []}
use Rattle.cable_faults.specs.declared.cable.Cable.{Cable}
use Rattle.cable_faults.specs.declared.options.Options.{Options}

-- no telegram meets a fault by chance, and no token is withheld
pub record IsFaultless (options : Options) : Type 0 where
  pub lose : options.lose.millionths ≡ 0
  pub spoil : options.spoil.millionths ≡ 0
  pub cut : options.cut.millionths ≡ 0
  pub late : options.late.millionths ≡ 0
  pub tokens : options.drops_tokens ≡ false

-- no slave is off the bus, and no order waits
pub record IsFree (cable : Cable) : Type 0 where
  pub faultless : IsFaultless cable.options
  pub off : cable.off.items ≡ []
  pub waiting : cable.waiting.items ≡ []
