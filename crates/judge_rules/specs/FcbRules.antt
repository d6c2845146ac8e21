-- promise
-- The rules of the frame count bit (IEC 61158-4-3, frame count bit): the first SRD to a station has FCV 0, and each new one after it has FCV 1 and
-- the other FCB; the same telegram with the same FCB is a retry, which a master sends only if no answer came.
use Rattle.std.specs.Prelude.{◌==◌, ◌&&◌, ◌||◌, not, Bool, true, false, Option, Some, None}
use Rattle.dp_telegram.specs.declared.function_code.Function.{Function}
use Rattle.dp_telegram.specs.declared.function_code.Function.TheVariants as functions
use Rattle.dp_telegram.specs.Access.{global_address}
use Rattle.dp_cfg.specs.Choosing.{same_octets}
use Rattle.judge_rules.specs.declared.entry.Request.{Request}
use Rattle.judge_rules.specs.declared.station.Last.{Last}
use Rattle.judge_rules.specs.declared.station.Station.{Station}
use Rattle.judge_rules.specs.Entries.{is_srd}

abbrev pub same_bit : Bool → Bool → Bool
same_bit true bit = bit
same_bit false bit = not bit

-- an SRD to one station; one to all stations has no reply, and its frame count bit is not judged
abbrev pub is_counted : Request → Bool
is_counted request = is_srd request && not (request.address == global_address)

-- an SRD with FCV 1 that a slave takes as a repeat of this one, whose FCB it remembers
abbrev pub counts_alike : Last → Request → Bool
counts_alike last request = is_counted request && request.fcv && (last.fcv || last.fcb) && same_bit last.fcb request.fcb

abbrev pub is_same_telegram : Last → Request → Bool
is_same_telegram last request = same_octets last.octets.items request.octets.items

-- fcb-repeated: the FCB of the last SRD to the station, which was answered, with another telegram; a slave that did not answer has not taken its FCB
abbrev pub repeats_with_another : Option Last → Request → Bool
repeats_with_another None request = false
repeats_with_another (Some last) request = counts_alike last request && not (is_same_telegram last request) && last.answered

abbrev pub fcb_repeated : Station → Request → Bool
fcb_repeated station request = repeats_with_another station.last request

-- fcb-not-alternated: the last SRD to the station again, though it was answered
abbrev pub repeats_an_answered : Option Last → Request → Bool
repeats_an_answered None request = false
repeats_an_answered (Some last) request = counts_alike last request && is_same_telegram last request && last.answered

abbrev pub fcb_not_alternated : Station → Request → Bool
fcb_not_alternated station request = repeats_an_answered station.last request

-- fcb-first: FCV 1, though the last SRD to the station is missing, or had FCV 0 and was not answered
abbrev pub may_be_counted : Option Last → Bool
may_be_counted None = false
may_be_counted (Some last) = last.fcv || last.answered

abbrev pub fcb_first : Station → Request → Bool
fcb_first station request = is_counted request && request.fcv && not (may_be_counted station.last)

-- fcv-not-set: FCV 0 again: the last SRD to the station, another telegram, had FCV 0 too, and was answered. The same telegram may be a retry
abbrev pub stays_uncounted : Option Last → Request → Bool
stays_uncounted None request = false
stays_uncounted (Some last) request =
    is_counted request && not request.fcv && not last.fcv && not (is_same_telegram last request) && last.answered

abbrev pub fcv_not_set : Station → Request → Bool
fcv_not_set station request = stays_uncounted station.last request

-- fcb-not-allowed: FCB or FCV in a request without acknowledge, or for a status or an ident
abbrev pub has_no_count : Function → Bool
has_no_count functions.SdnLow = true
has_no_count functions.SdnHigh = true
has_no_count functions.FdlStatus = true
has_no_count functions.Ident = true
has_no_count functions.LsapStatus = true
has_no_count other = false

abbrev pub fcb_not_allowed : Request → Bool
fcb_not_allowed request = has_no_count request.function && (request.fcb || request.fcv)
