-- helper
-- Examples of a text that names ports.
use Rattle.std.specs.Prelude.{◌≡◌, codes, List, [], ◌∷◌, Some, None, refl}
use Rattle.std.specs.Fmt.{digits}
use Rattle.serve_sockets.specs.Ports.{ports_text, read_ports}
use Rattle.serve_sockets.specs.declared.line_ports.LinePorts.{LinePorts}

abbrev two_lines : List LinePorts
two_lines = record { line = 1; listen = 43117; operator = 43118 } ∷ record { line = 12; listen = 7200; operator = 7 } ∷ []

pub rows_of_two_lines : ports_text two_lines ≡ codes "line 1 listen 43117 operator 43118\nline 12 listen 7200 operator 7\n"
unfolding digits
rows_of_two_lines = refl

pub two_lines_are_read : read_ports (codes "line 1 listen 43117 operator 43118\nline 12 listen 7200 operator 7\n") ≡ Some two_lines
two_lines_are_read = refl

pub no_lines_are_read : read_ports [] ≡ Some []
no_lines_are_read = refl

-- a text that was cut off names no ports
pub a_text_that_is_cut_off : read_ports (codes "line 1 listen 43117 operator 4311") ≡ None
a_text_that_is_cut_off = refl
