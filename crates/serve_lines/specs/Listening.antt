-- detail
-- The ports of lines, and why one of them is not listened at (own).
use Rattle.std.specs.Prelude.{ℕ, List, [], ◌∷◌, Contains}
use Rattle.std.specs.List.{flat_map}
use Rattle.serve_faults.specs.declared.serve_fault.ServeFault.{ServeFault}
use Rattle.serve_faults.specs.declared.serve_fault.ServeFault.TheVariants as faults
use Rattle.serve_lines.specs.declared.served_line.ServedLine.{ServedLine}

-- the ports of lines in turn, that for masters first
abbrev pub ports_of : List ServedLine → List ℕ
ports_of lines = flat_map (λ line. line.listen ∷ line.operator ∷ []) lines

-- a port of these lines cannot be listened at, or memory is refused
abbrev pub IsListeningFault : List ServedLine → ServeFault → Type 0
IsListeningFault lines (faults.CannotListen port cause) = Contains (ports_of lines) port
IsListeningFault lines faults.OutOfMemory = Unit {0}
IsListeningFault lines other = ⊥
