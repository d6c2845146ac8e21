-- detail
-- How much a master did, and what is untested (own).
use Rattle.std.specs.Prelude.{codes, ℕ, ◌+◌, ◌-◌, ◌^◌, ◌||◌, min, nat_lt, if◌then◌else◌, Bool, false, true, List, [], ◌++◌, fold, Option, Some, None}
use Rattle.std.specs.List.{flat_map, list_any}
use Rattle.std.specs.Fmt.{decimal}
use Rattle.judge_rules.specs.declared.entry.Entry.{Entry}
use Rattle.judge_rules.specs.declared.entry.Entry.TheVariants as entries
use Rattle.judge_rules.specs.Entries.{is_exchanged}
use Rattle.judge_findings.specs.declared.tested.Least.{Least}
use Rattle.judge_findings.specs.declared.tested.Tested.{Tested}
use Rattle.judge_findings.specs.declared.seat.Seat.{Seat}

-- ---- what was done

-- the sum of two counts, which stops at the largest number of 64 bits
abbrev pub count_sum : ℕ → ℕ → ℕ
count_sum count more = min (count + more) (2 ^ 64 - 1)

-- the next entry of a master: a request, and perhaps a Data_Exchange that was answered with data
abbrev pub with_request : Bool → Tested → Tested
with_request exchanged tested = record {
  requests = count_sum tested.requests 1;
  exchanges = if exchanged then count_sum tested.exchanges 1 else tested.exchanges;
}

abbrev pub tested_after : Entry → Tested → Tested
tested_after (entries.Request request) tested = with_request (is_exchanged request) tested
tested_after (entries.PassedToken to) tested = tested
tested_after entries.Stray tested = tested

-- ---- what is untested

-- a master has sent fewer requests than this
abbrev pub lacks_requests : Least → Seat → Bool
lacks_requests least seat = nat_lt seat.tested.requests least.requests

-- the Data_Exchanges of all judged masters, and whether they are fewer than this
abbrev pub with_exchanges : ℕ → Seat → ℕ
with_exchanges sum seat = count_sum sum seat.tested.exchanges

abbrev pub exchanges_of : List Seat → ℕ
exchanges_of seats = fold with_exchanges 0 seats

abbrev pub lacks_exchanges : Least → List Seat → Bool
lacks_exchanges least seats = nat_lt (exchanges_of seats) least.exchanges

abbrev pub is_untested : Least → List Seat → Bool
is_untested least seats = list_any (lacks_requests least) seats || lacks_exchanges least seats

-- ---- rows

unfoldable pub requests_row : Least → Seat → List ℕ
requests_row least seat =
    codes "  master " ++ decimal seat.master ++ codes " untested: requests " ++ decimal seat.tested.requests ++ codes ", at least " ++ decimal least.requests ++ codes "\n"

abbrev pub master_row : Least → Seat → List ℕ
master_row least seat = if lacks_requests least seat then requests_row least seat else []

abbrev pub at_least_words : ℕ → ℕ → List ℕ
at_least_words count least = decimal count ++ codes ", at least " ++ decimal least

abbrev pub line_row : Least → List Seat → List ℕ
line_row least seats = if lacks_exchanges least seats then codes "  untested: exchanges " ++ at_least_words (exchanges_of seats) least.exchanges ++ codes "\n" else []

-- a text that is not legal has no such rows
abbrev pub untested_rows : Option Least → List Seat → List ℕ
untested_rows (Some least) seats = flat_map (master_row least) seats ++ line_row least seats
untested_rows None seats = []

-- ---- JSON

unfoldable pub requests_line : Least → Seat → List ℕ
requests_line least seat =
    codes "{\"untested\":{\"master\":" ++ decimal seat.master ++ codes ",\"requests\":" ++ decimal seat.tested.requests ++ codes ",\"at_least\":" ++ decimal least.requests ++ codes "}}\n"

abbrev pub master_line : Least → Seat → List ℕ
master_line least seat = if lacks_requests least seat then requests_line least seat else []

abbrev pub exchanges_line : ℕ → ℕ → List ℕ
exchanges_line count least = codes "{\"untested\":{\"exchanges\":" ++ decimal count ++ codes ",\"at_least\":" ++ decimal least ++ codes "}}\n"

abbrev pub line_line : Least → List Seat → List ℕ
line_line least seats = if lacks_exchanges least seats then exchanges_line (exchanges_of seats) least.exchanges else []

abbrev pub untested_lines : Option Least → List Seat → List ℕ
untested_lines (Some least) seats = flat_map (master_line least) seats ++ line_line least seats
untested_lines None seats = []
