-- helper
-- A tail after a call (own).
use Rattle.std.specs.Prelude.{◌≡◌}
use Rattle.std.specs.declared.io.traits.Write.{Ghosts}
use Rattle.audit_trail.specs.Trails.{OnlyLooks}
use Rattle.audit_trail.specs.declared.tail.Tail.{Tail}

-- The same tail, later: of the same line, with the same pass, which took only looks, and opened with the same writer and the same version.
pub record IsSameTail {W : Type 0} {g : Ghosts W} (old new : Tail W g) : Type 0 where
  pub looks : OnlyLooks old.pass.view new.pass.view
  pub table : new.pass.table ≡ old.pass.table
  pub number : new.pass.line ≡ old.pass.line
  pub line : new.line ≡ old.line
  pub opened : new.opened ≡ old.opened
  pub version : new.version ≡ old.version
