use Rattle.std.proofs.Common.{◌≡◌, length}
use Rattle.serve_sockets.specs.PortFiles.{names_ports, names_rows}
use Rattle.serve_sockets.proofs.named_ports.names_ports.Given as goal

-- the rows that are left decide
abbrev pub invariant-loop-row : goal.invariant-loop-row
invariant-loop-row l = names_rows l.rows ≡ names_ports l.fn.text

-- how many rows are left
abbrev pub decreases-loop-row : goal.decreases-loop-row
decreases-loop-row l = length l.rows
