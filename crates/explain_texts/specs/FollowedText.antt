-- helper
-- What is left by rows that were read and followed (own). No public clause cites this module.
use Rattle.std.specs.Prelude.{◌≡◌, ℕ, List, ◌++◌, Option, Result, Ok, Err}
use Rattle.dp_line.specs.World.{Description}
use Rattle.dp_audit.specs.declared.fault.AuditFault.{AuditFault}
use Rattle.dp_audit.specs.Check.{checked}
use Rattle.explain_texts.specs.declared.choice.Choice.{Choice}
use Rattle.explain_texts.specs.declared.hold.Hold.{Hold}
use Rattle.explain_texts.specs.declared.read_fault.ReadFault.TheVariants as faults
use Rattle.explain_texts.specs.declared.rows_fault.RowsFault.{RowsFault}
use Rattle.explain_texts.specs.declared.rows_fault.RowsFault.TheVariants as rows
use Rattle.explain_texts.specs.Followed.{Followed, FollowerView, followed_text}
use Rattle.explain_texts.specs.Following.{stored_with}
use Rattle.explain_texts.specs.Reports.{Reports, ReportsPrefix, Takes}
use Rattle.explain_texts.specs.TextRows.{TextRead, octets_read}
use Rattle.explain_texts.specs.Entries.{entries_verdict, followed_entries}

-- all rows were followed, up to the first wrong one: the holds that they ended were stored, and their entries were reported
pub record IsFollowed {S : Type 0} (takes : Takes S) (all : Followed) (judged verdict : Result ℕ AuditFault) (last : FollowerView) (ended stored : Option (List Hold)) (old new : S) : Type 0 where
  pub verdict_is : verdict ≡ judged
  pub known : last ≡ all.last
  pub ended_so : stored ≡ stored_with all.ended ended
  pub reported : Reports takes old new all.reported

-- the verdict on the rows; if it ended early, a first part was reported
abbrev pub FollowsRows : {S : Type 0} → Takes S → Followed → Result ℕ AuditFault → FollowerView → Option (List Hold) → Option (List Hold) → S → S → Result (Result ℕ AuditFault) RowsFault → Type 0
FollowsRows takes all judged last ended stored old new (Ok verdict) = IsFollowed takes all judged verdict last ended stored old new
FollowsRows takes all judged last ended stored old new (Err (rows.Explain fault)) = ReportsPrefix takes old new all.reported
FollowsRows takes all judged last ended stored old new (Err (rows.Read faults.OutOfMemory)) = ReportsPrefix takes old new all.reported
FollowsRows takes all judged last ended stored old new (Err (rows.Read faults.CannotRead)) = ReportsPrefix takes old new all.reported
FollowsRows takes all judged last ended stored old new (Err (rows.Read faults.NotText)) = ⊥

-- the rows of a text behind its header
abbrev pub FollowsText : {S : Type 0} → Takes S → Choice → Description → List ℕ → FollowerView → Option (List Hold) → Option (List Hold) → S → S → Result (Result ℕ AuditFault) RowsFault → Type 0
FollowsText takes choice line text last ended stored old new result =
    FollowsRows takes (followed_text choice line text) (checked line text) last ended stored old new result

-- the rows of entries that a call has read, from the follower on that it begins with
pub record FollowsEntries {S : Type 0} (takes : Takes S) (choice : Choice) (first : FollowerView) (before after : TextRead) (last : FollowerView) (ended stored : Option (List Hold)) (old new : S) (result : Result (Result ℕ AuditFault) RowsFault) : Type 0 where
  pub entries : List ℕ
  pub read : octets_read after ≡ octets_read before ++ entries
  pub follows : FollowsRows takes (followed_entries choice first entries) (entries_verdict choice first entries) last ended stored old new result
