-- detail
-- A line as JSON (own).
use Rattle.std.specs.Prelude.{codes, ℕ, ◌==◌, nat_lt, Bool, List, [], ◌∷◌, ◌++◌, map, filter, length, Option, Some, None, if◌then◌else◌}
use Rattle.std.specs.Fmt.{decimal}
use Rattle.dp_slave.specs.declared.description.SlaveSpec.{SlaveSpec}
use Rattle.dp_slave.specs.SlaveRecord.{SlaveRecord}
use Rattle.dp_line.specs.World.{World, slave_at}
use Rattle.dp_line.specs.Owned.{owned}
use Rattle.explain_events.specs.Releases.{release_of}
use Rattle.explain_events.specs.EventContexts.{EventContextView}
use Rattle.explain_texts.specs.declared.tally.SenderCounts.{SenderCounts}
use Rattle.explain_texts.specs.JsonCounts.{ways_json}
use Rattle.explain_texts.specs.JsonValues.{array_json, number_json, string_json, truth_json}
use Rattle.watch_lines.specs.declared.kept_entry.KeptEntry.{KeptEntry}
use Rattle.watch_lines.specs.declared.text_verdict.TextVerdict.{TextVerdict}
use Rattle.watch_lines.specs.declared.text_verdict.TextVerdict.TheVariants as text_verdicts
use Rattle.watch_lines.specs.Watched.{WatchedView, text_verdict_of}
use Rattle.watch_json.specs.Slaves.{slave_json}
use Rattle.watch_json.specs.Values.{numbers_json}

-- ---- the masters

abbrev pub held_by : World → Option ℕ → List ℕ
held_by world None = []
held_by world (Some master) = owned world master

unfoldable pub master_json : World → SenderCounts → List ℕ
master_json world counts =
    codes "{\"address\":" ++ number_json counts.sender
    ++ codes ",\"holds\":" ++ numbers_json (held_by world counts.sender)
    ++ codes ",\"ways\":" ++ ways_json counts
    ++ codes "}"

-- ---- the slaves, in the order of the description

abbrev pub with_slave_json : EventContextView → SlaveSpec → Option SlaveRecord → List (List ℕ) → List (List ℕ)
with_slave_json context spec None others = others
with_slave_json context spec (Some slave) others = slave_json (release_of context.releases spec.address) spec slave ∷ others

abbrev pub slaves_json : EventContextView → List SlaveSpec → List (List ℕ)
slaves_json context [] = []
slaves_json context (spec ∷ specs) = with_slave_json context spec (slave_at context.world spec.address) (slaves_json context specs)

-- ---- the entries with a number above this one

unfoldable pub entry_json : KeptEntry → List ℕ
entry_json entry = codes "{\"number\":" ++ decimal entry.number ++ codes ",\"entry\":" ++ entry.text.items ++ codes "}"

abbrev pub is_after : ℕ → KeptEntry → Bool
is_after number entry = nat_lt number entry.number

unfoldable pub entries_json : ℕ → List KeptEntry → List ℕ
entries_json after entries = array_json (map entry_json (filter (is_after after) entries))

-- ---- the text

unfoldable pub file_json : List ℕ → List ℕ
file_json file = if length file == 0 then codes "null" else string_json file

abbrev pub text_verdict_name : TextVerdict → List ℕ
text_verdict_name text_verdicts.Empty = codes "empty"
text_verdict_name text_verdicts.Legal = codes "legal"
text_verdict_name (text_verdicts.BadLine row) = codes "bad line"
text_verdict_name (text_verdicts.NotThePolicy row) = codes "not the policy"

abbrev pub wrong_row : TextVerdict → ℕ
wrong_row text_verdicts.Empty = 0
wrong_row text_verdicts.Legal = 0
wrong_row (text_verdicts.BadLine row) = row
wrong_row (text_verdicts.NotThePolicy row) = row

-- the line, the file and what the text was found to be
unfoldable pub found_json : WatchedView → List ℕ
found_json watched =
    codes "\"line\":" ++ decimal watched.line.number
    ++ codes ",\"file\":" ++ file_json watched.file
    ++ codes ",\"standing\":" ++ string_json (text_verdict_name (text_verdict_of watched watched.header))

-- the first wrong row, and the octets of a row whose LF has not come
unfoldable pub rows_json : WatchedView → List ℕ
rows_json watched =
    codes "\"row\":" ++ decimal (wrong_row (text_verdict_of watched watched.header))
    ++ codes ",\"begun\":" ++ decimal watched.begun

unfoldable pub text_json : WatchedView → List ℕ
text_json watched = found_json watched ++ codes "," ++ rows_json watched

-- ---- the line

unfoldable pub places_json : EventContextView → List ℕ
places_json context =
    codes "\"count\":" ++ decimal context.world.count
    ++ codes ",\"capacity\":" ++ decimal context.world.capacity
    ++ codes ",\"halted\":" ++ truth_json context.world.halted
    ++ codes ",\"time\":" ++ number_json context.time

unfoldable pub stations_json : WatchedView → List ℕ
stations_json watched =
    codes "\"masters\":" ++ array_json (map (master_json watched.follower.known.context.world) watched.follower.known.tally)
    ++ codes ",\"slaves\":" ++ array_json (slaves_json watched.follower.known.context watched.line.slaves)

unfoldable pub kept_json : ℕ → WatchedView → List ℕ
kept_json after watched =
    codes "\"notable\":" ++ entries_json after watched.kept.notable
    ++ codes ",\"recent\":" ++ entries_json after watched.kept.recent

unfoldable pub line_json : ℕ → WatchedView → List ℕ
line_json after watched =
    codes "{" ++ text_json watched
    ++ codes "," ++ places_json watched.follower.known.context
    ++ codes "," ++ stations_json watched
    ++ codes "," ++ kept_json after watched
    ++ codes "}"
