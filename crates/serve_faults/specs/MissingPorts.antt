-- detail
-- The port that a line of a rack lacks, so that the line cannot be served (own).
use Rattle.std.specs.Prelude.{codes, ℕ, ◌+◌, Bool, ◌&&◌, List, [], ◌∷◌, ◌++◌, Option, Some, None, is_some}
use Rattle.std.specs.Fmt.{decimal}
use Rattle.rack_file.specs.Rack.{LineDescription}
use Rattle.serve_faults.specs.declared.missing_port.MissingPort.{MissingPort}
use Rattle.serve_faults.specs.declared.missing_port.PortKey.{PortKey}
use Rattle.serve_faults.specs.declared.missing_port.PortKey.TheVariants as keys

-- whether a line has both its ports
abbrev pub has_ports : LineDescription → Bool
has_ports line = is_some line.listen && is_some line.operator

-- the key that a line lacks, `listen` before `operator`
abbrev pub lacked : Option ℕ → Option ℕ → Option PortKey
lacked None operator = Some keys.Listen
lacked (Some listen) None = Some keys.Operator
lacked (Some listen) (Some operator) = None

abbrev pub missing_at : ℕ → Option PortKey → Option MissingPort → Option MissingPort
missing_at position None others = others
missing_at position (Some key) others = Some (record { line = position; key = key })

-- the first line that lacks a port; the first line of the list has this position
abbrev pub missing_from : ℕ → List LineDescription → Option MissingPort
missing_from position [] = None
missing_from position (line ∷ lines) = missing_at position (lacked line.listen line.operator) (missing_from (position + 1) lines)

abbrev pub key_text : PortKey → List ℕ
key_text keys.Listen = codes "listen"
key_text keys.Operator = codes "operator"

abbrev pub missing_port_text : MissingPort → List ℕ
missing_port_text missing = codes "line " ++ decimal missing.line ++ codes ", key \"" ++ key_text missing.key ++ codes "\": missing"
