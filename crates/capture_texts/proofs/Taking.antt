-- A row that a line and a follower take.
use Rattle.std.proofs.Common.{◌≡◌, ℕ, ◌+◌, List, [], ◌++◌, Option, Some, None, Result, Ok, Err, refl, sym, ap, subst, ◌∙◌}
use Rattle.std.specs.Io.KnownBytes.{Appends}
use Rattle.dp_line.specs.declared.event.Event.{Event}
use Rattle.dp_line.specs.declared.event.Outcome.{Outcome}
use Rattle.dp_line.specs.declared.event.Step.{Step}
use Rattle.dp_line.specs.World.{World}
use Rattle.dp_line.specs.Steps.{step}
use Rattle.dp_text.specs.Words.{lines_of}
use Rattle.dp_text.specs.Writes.{WritesPrefix}
use Rattle.dp_audit.specs.declared.fault.AuditFault.{AuditFault}
use Rattle.dp_audit.specs.declared.fault.AuditFault.TheVariants.{BadLine, NotThePolicy}
use Rattle.dp_audit.specs.Check.{Judged, bad, not_the_policy, right, judged_line}
use Rattle.dp_audit.specs.Checking.{TakesRow}
use Rattle.dp_audit.proofs.Written.{none_written}
use Rattle.capture_texts.specs.Blocks.{Block, capture_octets}
use Rattle.explain_events.specs.EventContexts.{EventContextView}
use Rattle.explain_events.specs.ExplainedEntries.{explained_entry_text}
use Rattle.explain_texts.specs.declared.choice.Choice.{Choice}
use Rattle.explain_texts.specs.declared.follow_fault.FollowFault.TheVariants as follows
use Rattle.explain_texts.specs.Explained.{reported_event, reported_row}
use Rattle.explain_texts.specs.Followed.{FollowerView, FollowsRow, after_row, event_taken, event_unless, facts_of_row, following}
use Rattle.explain_texts.specs.Known.{KnownView, known_after, outcome_reported}
use Rattle.explain_texts.specs.Reported.{Reported}
use Rattle.explain_texts.specs.Reports.{Reports, Takes}
use Rattle.explain_texts.specs.Written.{WritesRows}
use Rattle.capture_texts.specs.declared.row_fault.Cut.{Cut}
use Rattle.capture_texts.specs.declared.row_fault.RowFault.{RowFault}
use Rattle.capture_texts.specs.declared.row_fault.RowFault.TheVariants as faults
use Rattle.capture_texts.specs.Comments.{comment_of}
use Rattle.capture_texts.specs.Captured.{entry_packets, every_entry, explained_rows, microseconds, packets_of}
use Rattle.capture_texts.specs.Captures.{LeavesPackets, TakesEntry, TakesRight}
use Rattle.capture_texts.proofs.Rows.{follower_after}

-- ---- the line takes the row

abbrev yields : Event → Result Event AuditFault
yields event = Ok event

abbrev refuses : AuditFault → Result Event AuditFault
refuses fault = Err fault

same_event : {a b : Event} → yields a ≡ yields b → b ≡ a
same_event e = cc

record IsStep (world after : World) (row : List ℕ) (event : Event) (answer : Step) : Type 0 where
  judged_so : judged_line world row ≡ right event
  left : after ≡ (step world event).world
  answered : answer ≡ (step world event).answer

step_by : (world after : World) (row : List ℕ) (event : Event) (answer : Step) (judged : Judged) → judged_line world row ≡ judged → TakesRow judged world after answer (Ok event) → IsStep world after row event answer
step_by world after row event answer bad is takes = absurd cc
step_by world after row event answer not_the_policy is takes = absurd cc
step_by world after row event answer (right found) is takes =
    let same : found ≡ event = same_event takes.0 in
    record {
      judged_so = is ∙ ap right same;
      left = takes.2 ∙ ap (λ (e : Event). (step world e).world) same;
      answered = takes.3 ∙ ap (λ (e : Event). (step world e).answer) same;
    }

-- ---- the follower takes it too

event_is : (follower : FollowerView) (row : List ℕ) (event : Event) → follower.fault ≡ None → judged_line follower.known.context.world row ≡ right event → event_taken follower row ≡ Some event
event_is follower row event faultless judged =
    ap (λ (f : Option AuditFault). event_unless f (judged_line follower.known.context.world row)) faultless ∙ ap (event_unless None) judged

-- a right row, as both have taken it
pub record IsEntry (follower : FollowerView) (row : List ℕ) (event : Event) (after : FollowerView) (left : World) (answer : Step) : Type 0 where
  pub judged_so : judged_line follower.known.context.world row ≡ right event
  pub faultless : (after_row follower row).fault ≡ None
  pub follows : after ≡ following (known_after follower.known event)
  pub same : left ≡ after.known.context.world
  pub outcome_is : answer.outcome ≡ (step follower.known.context.world event).answer.outcome

pub entry_is : (follower : FollowerView) (row : List ℕ) (event : Event) (after : FollowerView) (state left : World) (answer : Step) → follower.fault ≡ None → state ≡ follower.known.context.world
    → TakesRow (judged_line state row) state left answer (Ok event) → after ≡ after_row follower row → IsEntry follower row event after left answer
entry_is follower row event after state left answer faultless same takes is =
    let world = follower.known.context.world in
    let stepped = step_by world left row event answer (judged_line world row) refl (subst (λ (w : World). TakesRow (judged_line w row) w left answer (Ok event)) same takes) in
    let now = follower_after follower row event faultless stepped.judged_so in
    record {
      judged_so = stepped.judged_so;
      faultless = ap (λ (f : FollowerView). f.fault) now;
      follows = is ∙ now;
      same = stepped.left ∙ sym (ap (λ (f : FollowerView). f.known.context.world) (is ∙ now));
      outcome_is = ap (λ (a : Step). a.outcome) stepped.answered;
    }

-- the rows of the entry that the follower reported
abbrev TakesRows : {S : Type 0} → (S → List ℕ) → Takes S
TakesRows written old fact result new = WritesRows fact (Some (written old)) (Some (written new)) result

one_entry : {S : Type 0} (written : S → List ℕ) (context : EventContextView) (event : Event) (before now : S) → written before ≡ [] → Reports (TakesRows written) before now (reported_event every_entry context event)
    → lines_of (written now) ≡ explained_rows context event
unfolding explained_rows
one_entry written context event before now none taken =
    ap (λ s. lines_of (written s)) taken.2
    ∙ ap lines_of (taken.1 ∙ ap (λ (b : List ℕ). b ++ explained_entry_text context (step context.world event).world (context.world.count + 1) event (outcome_reported context.world event)) none)

pub rows_are : {S : Type 0} (written : S → List ℕ) (follower : FollowerView) (row : List ℕ) (event : Event) (choice : Choice) (before now : S) (done : Unit {0}) → follower.fault ≡ None → judged_line follower.known.context.world row ≡ right event
    → (after_row follower row).fault ≡ None → choice ≡ every_entry → written before ≡ [] → FollowsRow (TakesRows written) (facts_of_row choice follower row) (after_row follower row).fault before now (Ok done)
    → lines_of (written now) ≡ explained_rows follower.known.context event
rows_are written follower row event choice before now done faultless judged right_after all none follows =
    let taken : Reports (TakesRows written) before now (facts_of_row choice follower row) =
    subst (λ (f : Option AuditFault). FollowsRow (TakesRows written) (facts_of_row choice follower row) f before now (Ok done)) right_after follows in
    one_entry written follower.known.context event before now none
    (subst (λ (facts : List Reported). Reports (TakesRows written) before now facts)
    (ap (λ (c : Choice). facts_of_row c follower row) all ∙ ap (reported_row every_entry follower.known) (event_is follower row event faultless judged)) taken)

-- ---- its packets

same_packets : (number time moment place at : ℕ) (event : Event) (outcome reported : Outcome) (rows others : List (List ℕ)) → time ≡ moment → place ≡ at → outcome ≡ reported → rows ≡ others
    → packets_of number time (comment_of place event outcome rows) event outcome ≡ packets_of number moment (comment_of at event reported others) event reported
same_packets number time moment place at event outcome reported rows others a b c d = rw (a, b, c, d) refl

pub packets_are : (number time place : ℕ) (context : EventContextView) (event : Event) (outcome : Outcome) (rows : List ℕ) → place ≡ context.world.count + 1 → time ≡ microseconds context.time place
    → outcome ≡ (step context.world event).answer.outcome → lines_of rows ≡ explained_rows context event
    → packets_of number time (comment_of place event outcome (lines_of rows)) event outcome ≡ entry_packets number context event
unfolding entry_packets
packets_are number time place context event outcome rows at moment reported explained =
    same_packets number time (microseconds context.time (context.world.count + 1)) place (context.world.count + 1) event outcome (step context.world event).answer.outcome (lines_of rows) (explained_rows context event)
    (moment ∙ ap (microseconds context.time) at) at reported explained

-- ---- the result

pub takes_right : (number : ℕ) (judged : Judged) (known : KnownView) (after : FollowerView) (world : World) (old new : Option (List ℕ)) (result : Result (Unit {0}) RowFault) (event : Event) → judged ≡ right event
    → TakesRight number event known after world old new result → TakesEntry number judged known after world old new result
takes_right number judged known after world old new result event is takes = subst (λ (j : Judged). TakesEntry number j known after world old new result) (sym is) takes

pub cut_short : (number : ℕ) (known : KnownView) (event : Event) (after : FollowerView) (world : World) (old : Option (List ℕ)) (cut : Cut) → TakesRight number event known after world old old (Err (faults.Cut cut))
cut_short number known event after world old cut = none_written old (capture_octets (entry_packets number known.context event))

pub packets_taken : (number : ℕ) (known : KnownView) (event : Event) (after : FollowerView) (world : World) (old new : Option (List ℕ)) (packets : List Block) (done : Unit {0}) → packets ≡ entry_packets number known.context event
    → after ≡ following (known_after known event) → world ≡ after.known.context.world → LeavesPackets packets old new (Ok done) → TakesRight number event known after world old new (Ok done)
packets_taken number known event after world old new packets done are follows same leaves =
    (follows, same, subst (λ (ps : List Block). Appends old new (capture_octets ps)) are leaves)

pub packets_cut : (number : ℕ) (known : KnownView) (event : Event) (after : FollowerView) (world : World) (old new : Option (List ℕ)) (packets : List Block) (cut : Cut) → packets ≡ entry_packets number known.context event
    → LeavesPackets packets old new (Err cut) → TakesRight number event known after world old new (Err (faults.Cut cut))
packets_cut number known event after world old new packets cut are leaves = subst (λ (ps : List Block). WritesPrefix old new (capture_octets ps)) are leaves

abbrev wrong_row : AuditFault → Result (Unit {0}) RowFault
wrong_row fault = Err (faults.Wrong fault)

abbrev refuses_at : World → Result Event AuditFault
refuses_at world = Err (BadLine (world.count + 2))

abbrev refuses_policy : World → Result Event AuditFault
refuses_policy world = Err (NotThePolicy (world.count + 2))

wrapped : {a b : AuditFault} → refuses a ≡ refuses b → wrong_row a ≡ wrong_row b
wrapped e = cc

wrong_by : (number : ℕ) (judged : Judged) (known : KnownView) (after : FollowerView) (world : World) (state left : World) (answer : Step) (old : Option (List ℕ)) (fault : AuditFault) → state ≡ known.context.world
    → TakesRow judged state left answer (Err fault) → TakesEntry number judged known after world old old (Err (faults.Wrong fault))
wrong_by number bad known after world state left answer old fault same takes = (wrapped (takes ∙ ap refuses_at same), refl)
wrong_by number not_the_policy known after world state left answer old fault same takes = (wrapped (takes ∙ ap refuses_policy same), refl)
wrong_by number (right event) known after world state left answer old fault same takes = absurd (let never : refuses fault ≡ yields event = takes.0 in cc)

-- a row that the line refuses
pub takes_wrong : (number : ℕ) (row : List ℕ) (known : KnownView) (after : FollowerView) (world : World) (state left : World) (answer : Step) (old : Option (List ℕ)) (fault : AuditFault) → state ≡ known.context.world
    → TakesRow (judged_line state row) state left answer (Err fault) → TakesEntry number (judged_line known.context.world row) known after world old old (Err (faults.Wrong fault))
takes_wrong number row known after world state left answer old fault same takes =
    wrong_by number (judged_line known.context.world row) known after world state left answer old fault same
    (subst (λ (w : World). TakesRow (judged_line w row) state left answer (Err fault)) same takes)

-- the follower does not find another fault than the line
pub never_wrong : {P S : Type 0} (takes : Takes S) (facts : List Reported) (fault : Option AuditFault) (old new : S) (found : AuditFault) → fault ≡ None → FollowsRow takes facts fault old new (Err (follows.Wrong found)) → P
never_wrong takes facts fault old new found none took = absurd (subst (λ (f : Option AuditFault). FollowsRow takes facts f old new (Err (follows.Wrong found))) none took)
