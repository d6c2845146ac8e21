-- helper
-- Examples of inputs, and of how they are split.
use Rattle.std.specs.Prelude.{◌≡◌, codes, refl}
use Rattle.rack_script.specs.Input.{parts_of}

pub rack_and_script : parts_of (codes "a\nb\n%%\nc\nd") ≡ record { rack = codes "a\nb\n"; script = codes "c\nd" }
rack_and_script = refl

-- CR is not removed, and a line `%%` with a CR is no mark
pub lines_with_cr : parts_of (codes "a\r\n%%\r\n%%\nc\r\n") ≡ record { rack = codes "a\r\n%%\r\n"; script = codes "c\r\n" }
lines_with_cr = refl

pub no_mark : parts_of (codes "a\n%%%\n %%") ≡ record { rack = codes "a\n%%%\n %%"; script = codes "" }
no_mark = refl

-- a mark as the last line, with no LF
pub mark_at_the_end : parts_of (codes "a\n%%") ≡ record { rack = codes "a\n"; script = codes "" }
mark_at_the_end = refl

-- the first mark counts
pub two_marks : parts_of (codes "%%\n%%\n") ≡ record { rack = codes ""; script = codes "%%\n" }
two_marks = refl

pub nothing_at_all : parts_of (codes "") ≡ record { rack = codes ""; script = codes "" }
nothing_at_all = refl
