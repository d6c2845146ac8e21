-- detail
-- The last release of each slave: the entry that ended its last hold, and how (own).
use Rattle.std.specs.Prelude.{ℕ, List, replicate, slice_get, Option, None}
use Rattle.std.specs.Option.{option_and_then}
use Rattle.explain_events.specs.declared.releases.Release.{Release}

-- for each address, at its index; at first no slave has been released
abbrev pub first_releases : List (Option Release)
first_releases = replicate 128 None

-- the last release of the slave at this address
abbrev pub release_of : List (Option Release) → ℕ → Option Release
release_of releases address = option_and_then (λ release. release) (slice_get releases address)
