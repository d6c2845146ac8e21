-- detail
-- The explanation of rows of entries, from a follower on that has taken what came before them (own).
use Rattle.std.specs.Prelude.{◌≡◌, ℕ, ◌==◌, ◌||◌, Bool, List, ◌++◌, length, Result}
use Rattle.dp_line.specs.World.{Description}
use Rattle.dp_text.specs.Words.{lines_of}
use Rattle.dp_audit.specs.declared.fault.AuditFault.{AuditFault}
use Rattle.explain_texts.specs.declared.choice.Choice.{Choice}
use Rattle.explain_texts.specs.declared.rows_fault.RowsFault.{RowsFault}
use Rattle.explain_texts.specs.Followed.{Followed, FollowerView, ending_facts, followed, last_line, verdict_at, whole_rows}
use Rattle.explain_texts.specs.Reported.{Reported}
use Rattle.explain_texts.specs.Reports.{Takes}
use Rattle.explain_texts.specs.TextRows.{TextRead, octets_read}
use Rattle.explain_texts.specs.ExplainedRows.{ExplainsRows}

-- a text of rows of entries: all rows that have their LF are followed, until the first wrong one
abbrev pub followed_entries : Choice → FollowerView → List ℕ → Followed
followed_entries choice follower text = followed choice follower (whole_rows (lines_of text))

-- the verdict on such a text; nothing may follow the last LF
abbrev pub entries_verdict : Choice → FollowerView → List ℕ → Result ℕ AuditFault
entries_verdict choice follower text = verdict_at (followed_entries choice follower text).last (last_line (lines_of text))

-- its explanation: what is reported of the rows until the first wrong one, then the summary of the right ones, then the verdict
abbrev pub explained_entries : Choice → Description → FollowerView → List ℕ → List Reported
explained_entries choice line follower text =
    (followed_entries choice follower text).reported
    ++ ending_facts line (followed_entries choice follower text).ended (followed_entries choice follower text).last.known (entries_verdict choice follower text)

-- the next row begins behind all octets that were read: the current row is whole, or nothing of it was read
abbrev pub is_between_rows : TextRead → Bool
is_between_rows text = text.whole || length text.row == 0

-- the entries that a call has read, and their explanation with its exit status, or a first part if it ended early
pub record ExplainsEntries {S : Type 0} (takes : Takes S) (choice : Choice) (line : Description) (follower : FollowerView) (before after : TextRead) (old new : S) (result : Result ℕ RowsFault) : Type 0 where
  pub entries : List ℕ
  pub read : octets_read after ≡ octets_read before ++ entries
  pub explains : ExplainsRows takes (entries_verdict choice follower entries) after.row (explained_entries choice line follower entries) old new result
