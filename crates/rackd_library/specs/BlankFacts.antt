-- detail
-- The facts of a reason that has none beside its number (own).
use Rattle.std.specs.Prelude.{ℕ, Bool, true, false, Option, unwrap_or}
use Rattle.rackd_library.specs.declared.facts.Facts.{Facts}

-- an octet that there may not be: 255 for none
abbrev pub octet_or_none : Option ℕ → ℕ
octet_or_none octet = unwrap_or octet 255

abbrev pub truth_number : Bool → ℕ
truth_number false = 0
truth_number true = 1

abbrev pub blank_facts : ℕ → Facts
blank_facts reason = record {
  since = 0;
  value = 0;
  limit = 0;
  reason = reason;
  slave = 255;
  point = 255;
  master = 255;
  state = 255;
  detail = 255;
}
