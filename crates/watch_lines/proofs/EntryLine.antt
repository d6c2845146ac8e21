-- The line of JSON of the entry of a row, which is stored.
use Rattle.std.proofs.Common.{◌≡◌, ℕ, ◌+◌, List, [], ◌++◌, Option, Some, None, Result, Ok, Err, OnOk, ap, subst, ◌∙◌}
use Rattle.std.proofs.lemmas.Result.{on_ok_weaker}
use Rattle.dp_line.specs.declared.event.Event.{Event}
use Rattle.dp_audit.specs.declared.fault.AuditFault.{AuditFault}
use Rattle.dp_audit.specs.Check.{Judged, bad, not_the_policy, right}
use Rattle.explain_texts.specs.declared.follow_fault.FollowFault.{FollowFault}
use Rattle.explain_texts.specs.declared.follow_fault.FollowFault.TheVariants.{Wrong}
use Rattle.explain_texts.specs.Explained.{reported_event, reported_row}
use Rattle.explain_texts.specs.Followed.{FollowerView, FollowsRow, after_row, event_taken, event_unless, facts_of_row, first_wrong, judged_next}
use Rattle.explain_texts.specs.Json.{entry_front}
use Rattle.explain_texts.specs.Known.{KnownView}
use Rattle.explain_texts.specs.Reports.{Reports, Takes}
use Rattle.explain_texts.specs.Written.{WritesLine}
use Rattle.watch_lines.specs.Kept.{KeptView}
use Rattle.watch_lines.specs.Watched.{IsKept, KeepsEvent, every_entry, next_front}

-- a receiver writes lines; the function gives what it has written
abbrev TakesLines : {S : Type 0} → (S → List ℕ) → Takes S
TakesLines written old fact result new = WritesLine fact (Some (written old)) (Some (written new)) result

abbrev front_of : KnownView → List ℕ
front_of known = entry_front (known.context.world.count + 1)

line_by : {S : Type 0} (written : S → List ℕ) (known : KnownView) (event : Event) (before now : S) → written before ≡ [] → Reports (TakesLines written) before now (reported_event every_entry known.context event)
    → (others : List ℕ) × (written now ≡ front_of known ++ others)
line_by written known event before now none reports = (
  reports.1.0,
  ap written reports.2 ∙ reports.1.1 ∙ ap (λ (text : List ℕ). text ++ (front_of known ++ reports.1.0)) none,
)

abbrev taken_row : Unit {0} → Result (Unit {0}) FollowFault
taken_row done = Ok done

abbrev wrong_row : AuditFault → Result (Unit {0}) FollowFault
wrong_row fault = Err (Wrong fault)

is_taken : {P : Type 0} (done : Unit {0}) (fault : AuditFault) → taken_row done ≡ wrong_row fault → P
is_taken done fault e = absurd cc

keeps_by : {S T E : Type 0} (written : S → List ℕ) (known : KnownView) (entries : ℕ) (fault : Option AuditFault) (judged : Judged) (before now : S) (done : Unit {0}) (number : ℕ) (text : List ℕ) (old new : KeptView) (result : Result T E)
    → written before ≡ [] → FollowsRow (TakesLines written) (reported_row every_entry known (event_unless fault judged)) (first_wrong fault entries judged) before now (Ok done)
    → text ≡ written now → OnOk result (IsKept number text old new)
    → OnOk result (KeepsEvent (event_unless fault judged) number (front_of known) old new)
keeps_by written known entries (Some fault) judged before now done number text old new result none follows is kept = is_taken done fault follows.0
keeps_by written known entries None bad before now done number text old new result none follows is kept = is_taken done _ follows.0
keeps_by written known entries None not_the_policy before now done number text old new result none follows is kept = is_taken done _ follows.0
keeps_by written known entries None (right event) before now done number text old new result none follows is kept =
    let line = line_by written known event before now none follows in
    on_ok_weaker result (λ entry. (line.0, subst (λ (t : List ℕ). IsKept number t old new) (is ∙ line.1) entry)) kept

-- what a receiver of lines has written of a right row is stored
pub keeps_entry : {S T E : Type 0} (written : S → List ℕ) (follower : FollowerView) (row : List ℕ) (before now : S) (done : Unit {0}) (number : ℕ) (text : List ℕ) (old new : KeptView) (result : Result T E)
    → written before ≡ [] → FollowsRow (TakesLines written) (facts_of_row every_entry follower row) (after_row follower row).fault before now (Ok done)
    → text ≡ written now → OnOk result (IsKept number text old new)
    → OnOk result (KeepsEvent (event_taken follower row) number (next_front follower) old new)
keeps_entry written follower row before now done number text old new result none follows is kept =
    keeps_by written follower.known follower.known.context.world.count follower.fault (judged_next follower row) before now done number text old new result none follows is kept
