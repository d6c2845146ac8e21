-- detail
-- The verdict on an audit text on a rack (own).
use Rattle.std.specs.Prelude.{ℕ, List, [], ◌∷◌, find, Option, Some, None, Result, Err}
use Rattle.rack_file.specs.Rack.{LineDescription, RackDescription}
use Rattle.dp_text.specs.Words.{lines_of}
use Rattle.dp_audit.specs.declared.fault.AuditFault.{AuditFault}
use Rattle.dp_audit.specs.declared.fault.AuditFault.TheVariants as faults
use Rattle.dp_audit.specs.Check.{checked, is_accepted_header}

-- the first line of a rack that accepts the first line of a text as its header
abbrev pub line_named : List LineDescription → List (List ℕ) → Option LineDescription
line_named lines [] = None
line_named lines (header ∷ others) = find (λ line. is_accepted_header line.line header) lines

-- an audit text is checked on the line that it names; if it names none, its first line is bad
abbrev pub checked_by_line : Option LineDescription → List ℕ → Result ℕ AuditFault
checked_by_line None text = Err (faults.BadLine 1)
checked_by_line (Some line) text = checked line.line text

-- how many entries an audit text has, or the number of its first wrong line
abbrev pub checked_on : RackDescription → List ℕ → Result ℕ AuditFault
checked_on rack text = checked_by_line (line_named rack.lines (lines_of text)) text
