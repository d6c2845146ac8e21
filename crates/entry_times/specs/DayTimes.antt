-- detail
-- The time of day in words (own).
use Rattle.std.specs.Prelude.{codes, ℕ, ◌/◌, ◌%◌, nat_lt, if◌then◌else◌, List, [], ◌++◌}
use Rattle.std.specs.Fmt.{decimal}

-- the milliseconds since midnight, of milliseconds since 1970: each day has 86,400 seconds
abbrev pub of_day : ℕ → ℕ
of_day milliseconds = milliseconds % 86400000

abbrev pub hours_of : ℕ → ℕ
hours_of milliseconds = of_day milliseconds / 3600000

abbrev pub minutes_of : ℕ → ℕ
minutes_of milliseconds = (of_day milliseconds / 60000) % 60

abbrev pub seconds_of : ℕ → ℕ
seconds_of milliseconds = (of_day milliseconds / 1000) % 60

abbrev pub milliseconds_of : ℕ → ℕ
milliseconds_of milliseconds = of_day milliseconds % 1000

abbrev pub two_digits : ℕ → List ℕ
two_digits number = (if nat_lt number 10 then codes "0" else []) ++ decimal number

abbrev pub three_digits : ℕ → List ℕ
three_digits number = (if nat_lt number 10 then codes "00" else (if nat_lt number 100 then codes "0" else [])) ++ decimal number

-- HH:MM:SS.mmm
abbrev pub day_time_text : ℕ → List ℕ
day_time_text milliseconds =
    two_digits (hours_of milliseconds) ++ codes ":" ++ two_digits (minutes_of milliseconds) ++ codes ":" ++ two_digits (seconds_of milliseconds)
    ++ codes "." ++ three_digits (milliseconds_of milliseconds)
