-- A right row that a follower takes.
use Rattle.std.proofs.Common.{◌≡◌, ℕ, ◌+◌, List, Option, Some, None, Result, Ok, Err, OnOk, refl, sym, ap, subst, ◌∙◌}
use Rattle.dp_line.specs.declared.event.Event.{Event}
use Rattle.dp_line.specs.declared.event.Outcome.{Outcome}
use Rattle.dp_line.specs.declared.event.Step.{Step}
use Rattle.dp_line.specs.World.{Description, World}
use Rattle.dp_line.specs.Steps.{step}
use Rattle.dp_audit.specs.declared.fault.AuditFault.{AuditFault}
use Rattle.dp_audit.specs.Check.{Judged, bad, not_the_policy, right, judged_line, places_of_lines}
use Rattle.dp_audit.specs.Checking.{TakesRow}
use Rattle.explain_texts.specs.declared.choice.Choice.{Choice}
use Rattle.explain_texts.specs.declared.explain_fault.ExplainFault.{ExplainFault}
use Rattle.explain_texts.specs.declared.follow_fault.FollowFault.{FollowFault}
use Rattle.explain_texts.specs.declared.history.History.{History}
use Rattle.explain_texts.specs.declared.hold.Hold.{Hold}
use Rattle.explain_texts.specs.Holds.{holds_ended}
use Rattle.explain_texts.specs.Known.{KnownView, first_known, first_world, known_with, outcome_reported, outcome_with}
use Rattle.explain_texts.specs.Explained.{chosen_entry, ended_by_row, known_behind, reported_row}
use Rattle.explain_texts.specs.Followed.{FollowerView, FollowsRow, after_row, event_taken, event_unless, first_wrong, first_follower, following, judged_next, facts_of_row, holds_of_row}
use Rattle.explain_texts.specs.Following.{StoresHolds, first_fault, known_at, stored_with}
use Rattle.explain_texts.specs.Reported.{Reported}
use Rattle.explain_texts.specs.Reports.{LeavesFacts, Takes}
use Rattle.explain_texts.proofs.Reporting.{whole_prefix}

-- before the first entry
pub opened_is : (history : History) (world : World) (line : Description) (lines : List (List ℕ)) → world ≡ first_world line (places_of_lines line lines)
    → known_at history (first_world line (places_of_lines line lines)) ≡ first_known line (places_of_lines line lines) → following (known_at history world) ≡ first_follower line lines
opened_is history world line lines opened new = ap following (ap (known_at history) opened ∙ new)

-- ---- the row is judged right

record IsTaken (world after : World) (row : List ℕ) (event : Event) (answer : Step) : Type 0 where
  judged : judged_line world row ≡ right event
  left : after ≡ (step world event).world
  answered : answer ≡ (step world event).answer

abbrev yields : Event → Result Event AuditFault
yields event = Ok event

same_event : {a b : Event} → yields a ≡ yields b → b ≡ a
same_event e = cc

taken_by : (world after : World) (row : List ℕ) (event : Event) (answer : Step) (judged : Judged) → judged_line world row ≡ judged → TakesRow judged world after answer (Ok event)
    → IsTaken world after row event answer
taken_by world after row event answer bad is takes = absurd cc
taken_by world after row event answer not_the_policy is takes = absurd cc
taken_by world after row event answer (right found) is takes =
    let same : found ≡ event = same_event takes.0 in
    record {
      judged = is ∙ ap right same;
      left = takes.2 ∙ ap (λ (e : Event). (step world e).world) same;
      answered = takes.3 ∙ ap (λ (e : Event). (step world e).answer) same;
    }

-- what a follower knows of the row, and of the event that it takes
pub record IsEntry (self : FollowerView) (row : List ℕ) (event : Event) (before : KnownView) (after : World) (place : ℕ) (outcome : Outcome) : Type 0 where
  pub known : before ≡ self.known
  pub taken : event_taken self row ≡ Some event
  pub fault : (after_row self row).fault ≡ None
  pub left : after ≡ (step self.known.context.world event).world
  pub placed : place ≡ self.known.context.world.count + 1
  pub outcome_is : outcome ≡ outcome_reported self.known.context.world event

pub entry_is : (self : FollowerView) (row : List ℕ) (event : Event) (history : History) (before state after : World) (fault : Option AuditFault) (answer halted : Step) (place : ℕ)
    → record { known = known_at history before; fault = fault } ≡ self → fault ≡ None → (fault ≡ None → state ≡ before)
    → TakesRow (judged_line state row) state after answer (Ok event) → halted ≡ record answer { outcome = outcome_with answer.outcome answer.halted } → place ≡ before.count + 1
    → IsEntry self row event (known_at history before) after place halted.outcome
entry_is self row event history before state after fault answer halted place view none same takes halts at =
    let taken = taken_by state after row event answer (judged_line state row) refl takes in
    let world : state ≡ self.known.context.world = same none ∙ ap (λ (v : FollowerView). v.known.context.world) view in
    let faultless : self.fault ≡ None = sym (ap (λ (v : FollowerView). v.fault) view) ∙ none in
    let judged : judged_next self row ≡ right event = ap (λ (w : World). judged_line w row) (sym world) ∙ taken.judged in
    record {
      known = ap (λ (v : FollowerView). v.known) view;
      taken = ap (λ (f : Option AuditFault). event_unless f (judged_next self row)) faultless ∙ ap (event_unless None) judged;
      fault = ap (λ (f : Option AuditFault). first_wrong f self.known.context.world.count (judged_next self row)) faultless ∙ ap (first_wrong None self.known.context.world.count) judged;
      left = taken.left ∙ ap (λ (w : World). (step w event).world) world;
      placed = at ∙ ap (λ (v : FollowerView). v.known.context.world.count + 1) view;
      outcome_is =
          ap (λ (s : Step). s.outcome) halts
          ∙ ap (λ (s : Step). outcome_with s.outcome s.halted) taken.answered
          ∙ ap (λ (w : World). outcome_reported w event) world;
    }

-- ---- what is known after it, what is reported of it, and the holds that it ended

with_same : (before known : KnownView) (after next : World) (place there : ℕ) (event : Event) (outcome reported : Outcome) → before ≡ known → after ≡ next → place ≡ there → outcome ≡ reported
    → known_with before after place event outcome ≡ known_with known next there event reported
with_same before known after next place there event outcome reported a b c d = rw (a, b, c, d) refl

chosen_same : (choice : Choice) (before known : KnownView) (after next : World) (place there : ℕ) (event : Event) (outcome reported : Outcome) → before ≡ known → after ≡ next → place ≡ there → outcome ≡ reported
    → chosen_entry choice before.context after place event outcome ≡ chosen_entry choice known.context next there event reported
chosen_same choice before known after next place there event outcome reported a b c d = rw (a, b, c, d) refl

ended_same : (before known : KnownView) (after next : World) (place there : ℕ) (event : Event) (outcome reported : Outcome) → before ≡ known → after ≡ next → place ≡ there → outcome ≡ reported
    → holds_ended before.context.world after place event outcome ≡ holds_ended known.context.world next there event reported
ended_same before known after next place there event outcome reported a b c d = rw (a, b, c, d) refl

abbrev follower_of : KnownView → Option AuditFault → FollowerView
follower_of known fault = record { known = known; fault = fault }

pub known_is : (self : FollowerView) (row : List ℕ) (event : Event) (history later : History) (before after left : World) (fault : Option AuditFault) (place : ℕ) (outcome : Outcome)
    → IsEntry self row event (known_at history before) after place outcome → fault ≡ None → known_at later after ≡ known_with (known_at history before) after place event outcome
    → left ≡ (step before event).world → record { known = known_at later left; fault = fault } ≡ after_row self row
known_is self row event history later before after left fault place outcome entry none noted follows =
    let same : left ≡ after = follows ∙ ap (λ (k : KnownView). (step k.context.world event).world) entry.known ∙ sym entry.left in
    let known : known_at later left ≡ known_behind self.known (event_taken self row) =
    ap (known_at later) same ∙ noted
    ∙ with_same (known_at history before) self.known after (step self.known.context.world event).world place (self.known.context.world.count + 1) event outcome (outcome_reported self.known.context.world event) entry.known entry.left entry.placed entry.outcome_is
    ∙ sym (ap (known_behind self.known) entry.taken) in
    ap (λ (k : KnownView). follower_of k fault) known ∙ ap (follower_of (known_behind self.known (event_taken self row))) (none ∙ sym entry.fault)

-- facts that are reported, and then a fault of the holds
reported_follows : {S : Type 0} (takes : Takes S) (facts : List Reported) (old new : S) (reported stored : Result (Unit {0}) ExplainFault) (result : Result (Unit {0}) FollowFault) → LeavesFacts takes facts old new reported
    → result ≡ first_fault reported stored → FollowsRow takes facts None old new result
reported_follows takes facts old new (Ok done) (Ok stored) result leaves is = subst (FollowsRow takes facts None old new) (sym is) leaves
reported_follows takes facts old new (Ok done) (Err fault) result leaves is = subst (FollowsRow takes facts None old new) (sym is) (whole_prefix takes old new facts leaves)
reported_follows takes facts old new (Err fault) stored result leaves is = subst (FollowsRow takes facts None old new) (sym is) leaves

pub reported_is : {S : Type 0} (takes : Takes S) (choice : Choice) (self : FollowerView) (row : List ℕ) (event : Event) (before : KnownView) (after : World) (place : ℕ) (outcome : Outcome) (old new : S)
    (reported stored : Result (Unit {0}) ExplainFault) (result : Result (Unit {0}) FollowFault)
    → IsEntry self row event before after place outcome → LeavesFacts takes (chosen_entry choice before.context after place event outcome) old new reported → result ≡ first_fault reported stored
    → FollowsRow takes (facts_of_row choice self row) (after_row self row).fault old new result
reported_is takes choice self row event before after place outcome old new reported stored result entry leaves is =
    let facts : chosen_entry choice before.context after place event outcome ≡ facts_of_row choice self row =
    chosen_same choice before self.known after (step self.known.context.world event).world place (self.known.context.world.count + 1) event outcome (outcome_reported self.known.context.world event) entry.known entry.left entry.placed entry.outcome_is
    ∙ sym (ap (reported_row choice self.known) entry.taken) in
    subst (λ (f : Option AuditFault). FollowsRow takes (facts_of_row choice self row) f old new result) (sym entry.fault)
    (subst (λ (fs : List Reported). FollowsRow takes fs None old new result) facts (reported_follows takes (chosen_entry choice before.context after place event outcome) old new reported stored result leaves is))

holds_stored : (ended : List Hold) (old new : Option (List Hold)) (reported stored : Result (Unit {0}) ExplainFault) (result : Result (Unit {0}) FollowFault) → OnOk stored (new ≡ stored_with ended old) → result ≡ first_fault reported stored
    → StoresHolds ended old new result
holds_stored ended old new (Ok done) (Ok stored) result stores is = subst (StoresHolds ended old new) (sym is) stores
holds_stored ended old new (Ok done) (Err fault) result stores is = subst (StoresHolds ended old new) (sym is) tt
holds_stored ended old new (Err fault) stored result stores is = subst (StoresHolds ended old new) (sym is) tt

pub stored_is : (self : FollowerView) (row : List ℕ) (event : Event) (before : KnownView) (after : World) (place : ℕ) (outcome : Outcome) (old new : Option (List Hold))
    (reported stored : Result (Unit {0}) ExplainFault) (result : Result (Unit {0}) FollowFault)
    → IsEntry self row event before after place outcome → OnOk stored (new ≡ stored_with (holds_ended before.context.world after place event outcome) old) → result ≡ first_fault reported stored
    → StoresHolds (holds_of_row self row) old new result
stored_is self row event before after place outcome old new reported stored result entry stores is =
    let holds : holds_ended before.context.world after place event outcome ≡ holds_of_row self row =
    ended_same before self.known after (step self.known.context.world event).world place (self.known.context.world.count + 1) event outcome (outcome_reported self.known.context.world event) entry.known entry.left entry.placed entry.outcome_is
    ∙ sym (ap (ended_by_row self.known.context.world) entry.taken) in
    subst (λ (hs : List Hold). StoresHolds hs old new result) holds (holds_stored (holds_ended before.context.world after place event outcome) old new reported stored result stores is)
