-- detail
-- What a rack reports once all its ports are listened at (own).
use Rattle.std.specs.Prelude.{codes, ℕ, List}
use Rattle.serve_faults.specs.declared.serve_fault.OutputFault.{OutputFault}
use Rattle.serve_faults.specs.declared.serve_fault.OutputFault.TheVariants as outputs

-- what is written once every port is listened at
abbrev pub ready : List ℕ
ready = codes "ready\n"

-- the file that names the ports cannot be made, or memory is refused
abbrev pub IsPortsFault : OutputFault → Type 0
IsPortsFault (outputs.CannotMakePorts cause) = Unit {0}
IsPortsFault outputs.OutOfMemory = Unit {0}
IsPortsFault outputs.WriteFault = ⊥
