-- detail
-- A line whose audit text is followed for the page (own).
use Rattle.std.specs.Prelude.{codes, ◌≡◌, ℕ, ◌+◌, if◌then◌else◌, List, [], ◌++◌, true, false, Option, Some, None, Result, Ok, Err}
use Rattle.dp_line.specs.declared.event.Event.{Event}
use Rattle.dp_line.specs.World.{Description}
use Rattle.dp_text.specs.Words.{lines_of}
use Rattle.dp_audit.specs.declared.fault.AuditFault.{AuditFault}
use Rattle.dp_audit.specs.declared.fault.AuditFault.TheVariants as faults
use Rattle.dp_audit.specs.Check.{is_accepted_header}
use Rattle.audit_heads.specs.declared.head_fault.HeadFault.{HeadFault}
use Rattle.audit_heads.specs.Rows.{Left}
use Rattle.audit_heads.specs.Head.{Head}
use Rattle.audit_parts.specs.Parts.{fault_of_head}
use Rattle.explain_texts.specs.declared.choice.Choice.{Choice}
use Rattle.explain_texts.specs.JsonValues.{string_json}
use Rattle.explain_texts.specs.Behind.{follower_behind}
use Rattle.explain_texts.specs.Followed.{FollowerView, after_row, event_taken, first_follower}
use Rattle.explain_texts.specs.Json.{entry_front}
use Rattle.watch_lines.specs.declared.kept_entry.KeptEntry.{KeptEntry}
use Rattle.watch_lines.specs.declared.watched_line.Header.{Header}
use Rattle.watch_lines.specs.declared.watched_line.Header.TheVariants as headers
use Rattle.watch_lines.specs.declared.text_verdict.TextVerdict.{TextVerdict}
use Rattle.watch_lines.specs.declared.text_verdict.TextVerdict.TheVariants as text_verdicts
use Rattle.watch_lines.specs.Kept.{KeptView, entry_kept}
use Rattle.watch_lines.specs.Notable.{IsNotable}

-- every entry
abbrev pub every_entry : Choice
every_entry = record {
  from = None;
  to = None;
  slave = None;
  master = None;
  refused = false;
  faults = false;
  summary = false;
}

-- a line by the text that is followed: the name of the file that is read, what its header was found to be, what is known from its rows, how
-- many octets a row has whose LF has not come, and what is stored
pub record WatchedView : Type 0 where
  pub line : Description
  pub file : List ℕ
  pub header : Header
  pub follower : FollowerView
  pub begun : ℕ
  pub kept : KeptView

-- a line at the start of a text
abbrev pub text_begun : Description → List ℕ → KeptView → WatchedView
text_begun line file kept = record {
  line = line;
  file = file;
  header = headers.NotRead;
  follower = first_follower line (lines_of []);
  begun = 0;
  kept = kept;
}

-- ---- a row

-- the first row has to be a header of the line
abbrev pub header_judged : Description → List ℕ → Header
header_judged line row = if is_accepted_header line row then headers.Accepted else headers.Wrong (faults.BadLine 1)

abbrev pub header_after : WatchedView → List ℕ → Header → Header
header_after watched row headers.NotRead = header_judged watched.line row
header_after watched row (headers.Wrong fault) = headers.Wrong fault
header_after watched row headers.Accepted = headers.Accepted

-- the line is opened at an accepted header, and takes each row behind it
abbrev pub follower_opened : WatchedView → List ℕ → Header → FollowerView
follower_opened watched row headers.Accepted = first_follower watched.line (lines_of row)
follower_opened watched row (headers.Wrong fault) = watched.follower
follower_opened watched row headers.NotRead = watched.follower

abbrev pub follower_after : WatchedView → List ℕ → Header → FollowerView
follower_after watched row headers.NotRead = follower_opened watched row (header_judged watched.line row)
follower_after watched row (headers.Wrong fault) = watched.follower
follower_after watched row headers.Accepted = after_row watched.follower row

-- the event that is taken from a row: none before an accepted header
abbrev pub event_behind : WatchedView → List ℕ → Header → Option Event
event_behind watched row headers.NotRead = None
event_behind watched row (headers.Wrong fault) = None
event_behind watched row headers.Accepted = event_taken watched.follower row

-- the line is opened behind the head with which a text begins, unless no line goes on from it
abbrev pub behind_head : WatchedView → Result (Head × Left) HeadFault → WatchedView
behind_head watched (Ok read) = record watched { header = headers.Accepted; follower = follower_behind watched.line read.0; begun = 0 }
behind_head watched (Err fault) = record watched { header = headers.Wrong (fault_of_head watched.line fault); begun = 0 }

-- the line of JSON of a note that the text in this file begins
abbrev pub note_json : List ℕ → List ℕ → List ℕ
note_json file note = codes "{\"begins\":" ++ string_json file ++ codes ",\"note\":" ++ string_json note ++ codes "}\n"

-- the front of the line of JSON of the next event, which takes the next place of the line
abbrev pub next_front : FollowerView → List ℕ
next_front follower = entry_front (follower.known.context.world.count + 1)

-- an entry with this number and this line of JSON is stored
pub record IsKept (number : ℕ) (text : List ℕ) (old new : KeptView) : Type 0 where
  pub entry : KeptEntry
  pub numbered : entry.number ≡ number
  pub written : entry.text.items ≡ text
  pub notable : IsNotable text entry.is_notable
  pub kept : new ≡ entry_kept entry old

-- a note with this number, that the text in this file begins, is stored as a line of JSON, for as long as a notable entry
pub record IsNoted (number : ℕ) (file note : List ℕ) (old new : KeptView) : Type 0 where
  pub entry : KeptEntry
  pub numbered : entry.number ≡ number
  pub written : entry.text.items ≡ note_json file note
  pub notable : entry.is_notable ≡ true
  pub kept : new ≡ entry_kept entry old

-- the entry of a right row is stored, by a line with this front; nothing of another row
abbrev pub KeepsEvent : Option Event → ℕ → List ℕ → KeptView → KeptView → Type 0
KeepsEvent None number front old new = new ≡ old
KeepsEvent (Some event) number front old new = (others : List ℕ) × IsKept number (front ++ others) old new

abbrev pub KeepsRow : WatchedView → List ℕ → ℕ → KeptView → Type 0
KeepsRow watched row number new =
    KeepsEvent (event_behind watched row watched.header) number (next_front watched.follower) watched.kept new

-- the row is taken under this number: no octet of a row has begun then
pub record TakesRow (watched : WatchedView) (row : List ℕ) (number : ℕ) (new : WatchedView) : Type 0 where
  pub line : new.line ≡ watched.line
  pub file : new.file ≡ watched.file
  pub header : new.header ≡ header_after watched row watched.header
  pub follower : new.follower ≡ follower_after watched row watched.header
  pub begun : new.begun ≡ 0
  pub kept : KeepsRow watched row number new.kept

-- the text in this file begins under this number, with a note of it if there is one
abbrev pub KeepsNote : Option (List ℕ) → ℕ → List ℕ → KeptView → KeptView → Type 0
KeepsNote None number file old new = new ≡ old
KeepsNote (Some note) number file old new = IsNoted number file note old new

-- ---- the verdict on the text

abbrev pub text_verdict_by : Option AuditFault → TextVerdict
text_verdict_by None = text_verdicts.Legal
text_verdict_by (Some (faults.BadLine row)) = text_verdicts.BadLine row
text_verdict_by (Some (faults.NotThePolicy row)) = text_verdicts.NotThePolicy row
text_verdict_by (Some faults.OutOfMemory) = text_verdicts.Legal

abbrev pub text_verdict_of : WatchedView → Header → TextVerdict
text_verdict_of watched headers.NotRead = text_verdicts.Empty
text_verdict_of watched (headers.Wrong fault) = text_verdict_by (Some fault)
text_verdict_of watched headers.Accepted = text_verdict_by watched.follower.fault
