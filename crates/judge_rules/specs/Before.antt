-- detail
-- The telegram that an SRD is compared with: the last SRD of the master to the same station (IEC 61158-4-3, frame count bit).
use Rattle.std.specs.Prelude.{ℕ, List, Option, Some, None}
use Rattle.judge_rules.specs.declared.entry.Entry.{Entry}
use Rattle.judge_rules.specs.declared.entry.Entry.TheVariants as entries
use Rattle.judge_rules.specs.declared.station.Last.{Last}
use Rattle.judge_rules.specs.Stations.{station_of}

abbrev pub octets_stored : Option Last → Option (List ℕ)
octets_stored None = None
octets_stored (Some last) = Some last.octets.items

-- its octets; None if the entry is no request, or there was no SRD to the station before it
abbrev pub srd_before : List Entry → Entry → Option (List ℕ)
srd_before past (entries.Request request) = octets_stored (station_of request.address past).last
srd_before past other = None
