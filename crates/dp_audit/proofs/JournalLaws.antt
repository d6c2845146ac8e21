-- The laws of lines that are laws of journals: isolation and repeats.
use Rattle.std.proofs.Common.{◌≡◌, ℕ, ◌+◌, ◌<◌, ◌≤◌, Bool, true, false, cond, List, [], ◌∷◌, ◌++◌, length, None, refl, sym, ap, subst, ◌∙◌, length-append, arith}
use Rattle.std.specs.List.{AllByRecursion}
use Rattle.std.proofs.lemmas.Bool.Decides.{nat_tests}
use Rattle.arrayvec.specs.ArrayVec.{ArrayVec}
use Rattle.dp_telegram.specs.declared.frame.Frame.TheVariants as frames
use Rattle.dp_telegram.specs.declared.frame.Telegram.{Telegram}
use Rattle.dp_telegram.specs.FrameText.{Spells}
use Rattle.dp_telegram.specs.FunctionCode.{asks_srd, frame_count_is_valid, function_of}
use Rattle.dp_responder.specs.declared.rule.Rule.{Rule}
use Rattle.dp_responder.specs.declared.rule.Rule.TheVariants as rules
use Rattle.dp_slave.specs.ProcessData.{ProcessData}
use Rattle.dp_line.specs.declared.event.Event.{Event}
use Rattle.dp_line.specs.declared.event.Event.TheVariants.{Request, Operator}
use Rattle.dp_line.specs.declared.event.Op.TheVariants.{Halt}
use Rattle.dp_line.specs.declared.event.Outcome.TheVariants.{Reply}
use Rattle.dp_line.specs.declared.event.Step.{Step}
use Rattle.dp_line.specs.World.{Description, World, is_last_place, start_of, takes_no_more}
use Rattle.dp_line.specs.Events.{is_request_of}
use Rattle.dp_line.specs.Effects.{Stepped, effect}
use Rattle.dp_line.specs.Isolation.{Agrees, MeetsNoLastPlace, Seen, is_holder_at, is_no_others, only_requests_of, seen_by, watched}
use Rattle.dp_line.specs.Steps.{run, step}
use Rattle.dp_audit.specs.declared.entry.Entry.{Entry}
use Rattle.dp_audit.specs.Legal.{Follows, IsLegal, after_entries, after_entry}
use Rattle.dp_audit.specs.EventWays.{Way, meets_halt, is_refused, brings_halt, is_recorded}
use Rattle.dp_audit.specs.JournalRuns.{answer_recorded, answer_replaced, events_of}
use Rattle.dp_audit.specs.JournalIsolation.{noticed_in, watched_in}
use Rattle.dp_audit.proofs.Histories.{way}
use Rattle.dp_audit.proofs.JournalRuns.{capacity_stays, count_grows, counts, is_run, legal_before, legal_behind, same_capacity, stepped}

-- ---- below the last place

pub is_open : (world : World) → world.count + 1 < world.capacity → is_last_place world ≡ false
is_open world room = grind (arith, nat_tests)

-- what a step below the last place leaves: at most one entry more, and no halt instead of the event
record IsBelow (world : World) (after : Stepped) : Type 0 where
  count : after.world.count ≤ world.count + 1
  capacity : after.world.capacity ≡ world.capacity
  no_halt : after.answer.halted ≡ None

below_way : (world : World) (event : Event) → is_last_place world ≡ false → Way world event → IsBelow world (step world event)
unfolding effect
below_way world event room (meets_halt halted is none) = subst (IsBelow world) (sym is) (record { count = omega arith; capacity = refl; no_halt = refl })
below_way world event room (is_refused fault running faulty is none) = subst (IsBelow world) (sym is) (record { count = omega arith; capacity = refl; no_halt = refl })
below_way world event room (brings_halt last is one follows) = (let no : true ≡ false = sym last ∙ room in absurd cc)
below_way world event room (is_recorded open_place is one follows) = subst (IsBelow world) (sym is) (record { count = omega arith; capacity = refl; no_halt = refl })

pub meets_none : (world : World) (events : List Event) → world.count + length events < world.capacity → MeetsNoLastPlace world events
meets_none world [] room = tt
meets_none world (event ∷ events) room =
    let below = below_way world event (is_open world (omega (arith, room))) (way world event) in (
      below.no_halt,
      meets_none (step world event).world events (omega (arith, room, below.count, below.capacity)),
    )

-- ---- what a master sees

seen_same : (master address : ℕ) (world after : World) (entry : Entry) (answer : Step) → after ≡ after_entry world entry → answer ≡ answer_recorded entry
    → cond (is_no_others master entry.event) (seen_by address entry.event after answer ∷ []) [] ≡ noticed_in master address (after_entry world entry) entry
seen_same master address world after entry answer world_is answer_is = rw (world_is, answer_is) refl

pub watched_same : (master address : ℕ) (world : World) (entries : List Entry) → IsLegal world entries → world.count + length entries < world.capacity
    → watched master address world (events_of entries) ≡ watched_in master address world entries
watched_same master address world [] legal room = refl
watched_same master address world (entry ∷ entries) legal room =
    let is = stepped world entry legal.0 in
    let below = is_open world (omega (arith, room)) in
    let after = (step world entry.event).world in
    let answer_is : (step world entry.event).answer ≡ answer_recorded entry =
    is.answer_is ∙ ap (λ (b : Bool). cond b (answer_replaced entry) (answer_recorded entry)) below in
    let own = seen_same master address world after entry (step world entry.event).answer is.world_is answer_is in
    let rest : watched master address after (events_of entries) ≡ watched_in master address (after_entry world entry) entries =
    ap (λ (w : World). watched master address w (events_of entries)) is.world_is
    ∙ watched_same master address (after_entry world entry) entries legal.1 (omega (arith, room, count_grows world entry, capacity_stays world entry)) in
    ap (λ (l : List Seen). cond (is_holder_at master address world) (l ++ watched master address after (events_of entries)) []) own
    ∙ ap (λ (l : List Seen). cond (is_holder_at master address world) (noticed_in master address (after_entry world entry) entry ++ l) []) rest

-- ---- isolation

-- two lines that agree, in the other order, and one of them with itself
turned : (master address : ℕ) (world other : World) → Agrees master address world other → Agrees master address other world
turned master address world other agrees = record {
  slave = agrees.twin;
  twin = agrees.slave;
  here = agrees.there;
  there = agrees.here;
  is_master = agrees.is_master_there;
  is_master_there = agrees.is_master;
  held = ap (λ (p : ProcessData). p.holder) (sym agrees.process) ∙ agrees.held;
  goes = agrees.goes_there;
  goes_there = agrees.goes;
  description = sym agrees.description;
  process = sym agrees.process;
  busy = sym agrees.busy;
  memory = sym agrees.memory;
}

itself : (master address : ℕ) (world other : World) → Agrees master address world other → Agrees master address world world
itself master address world other agrees = record {
  slave = agrees.slave;
  twin = agrees.slave;
  here = agrees.here;
  there = agrees.here;
  is_master = agrees.is_master;
  is_master_there = agrees.is_master;
  held = agrees.held;
  goes = agrees.goes;
  goes_there = agrees.goes;
  description = refl;
  process = refl;
  busy = refl;
  memory = refl;
}

fewer_by : (keep : Bool) (event : Event) (kept : List Event) (n : ℕ) → length kept ≤ n → length (cond keep (event ∷ kept) kept) ≤ n + 1
fewer_by true event kept n few = omega (arith, few)
fewer_by false event kept n few = omega (arith, few)

fewer : (master : ℕ) (events : List Event) → length (only_requests_of master events) ≤ length events
fewer master [] = omega arith
fewer master (event ∷ events) = omega (arith, fewer_by (is_no_others master event) event (only_requests_of master events) (length events) (fewer master events))

-- what the law of lines says
abbrev Isolates : Type 0
Isolates = (master address : ℕ) (line other : Description) (before before_there events : List Event)
    → Agrees master address (run (start_of line) before).world (run (start_of other) before_there).world
    → MeetsNoLastPlace (run (start_of line) before).world events
    → MeetsNoLastPlace (run (start_of other) before_there).world (only_requests_of master events)
    → watched master address (run (start_of line) before).world events
    ≡ watched master address (run (start_of other) before_there).world (only_requests_of master events)

-- the same of worlds that runs leave
lines : Isolates → (master address : ℕ) (line other : Description) (before before_there : List Event) (world world_there : World) (events : List Event)
    → world ≡ (run (start_of line) before).world → world_there ≡ (run (start_of other) before_there).world
    → Agrees master address world world_there
    → world.count + length events < world.capacity
    → world_there.count + length (only_requests_of master events) < world_there.capacity
    → watched master address world events ≡ watched master address world_there (only_requests_of master events)
lines isolates master address line other before before_there world world_there events here there agrees room room_there =
    ap (λ (w : World). watched master address w events) here
    ∙ isolates master address line other before before_there events
    (subst (λ (w : World). Agrees master address (run (start_of line) before).world w) there (subst (λ (w : World). Agrees master address w world_there) here agrees))
    (subst (λ (w : World). MeetsNoLastPlace w events) here (meets_none world events room))
    (subst (λ (w : World). MeetsNoLastPlace w (only_requests_of master events)) there (meets_none world_there (only_requests_of master events) room_there))
    ∙ ap (λ (w : World). watched master address w (only_requests_of master events)) (sym there)

length_events : (entries : List Entry) → length (events_of entries) ≡ length entries
length_events [] = refl
length_events (entry ∷ entries) = omega (arith, length_events entries)

-- there is room behind the last of the entries
room_behind : (line : Description) (before entries : List Entry) → length (before ++ entries) < line.capacity
    → (after_entries (start_of line) before).count + length entries < (after_entries (start_of line) before).capacity
room_behind line before entries few =
    omega (arith, few, length-append before entries, counts (start_of line) before, same_capacity (start_of line) before)

room_of_events : (world : World) (entries : List Entry) → world.count + length entries < world.capacity → world.count + length (events_of entries) < world.capacity
room_of_events world entries room = omega (arith, room, length_events entries)

room_of_kept : (world : World) (master : ℕ) (events : List Event) → world.count + length events < world.capacity → world.count + length (only_requests_of master events) < world.capacity
room_of_kept world master events room = omega (arith, room, fewer master events)

pub isolated : Isolates → (master address : ℕ) (line other : Description) (before before_there entries entries_there : List Entry)
    → IsLegal (start_of line) (before ++ entries) → IsLegal (start_of other) (before_there ++ entries_there)
    → length (before ++ entries) < line.capacity → length (before_there ++ entries_there) < other.capacity
    → Agrees master address (after_entries (start_of line) before) (after_entries (start_of other) before_there)
    → only_requests_of master (events_of entries) ≡ only_requests_of master (events_of entries_there)
    → watched_in master address (after_entries (start_of line) before) entries ≡ watched_in master address (after_entries (start_of other) before_there) entries_there
isolated isolates master address line other before before_there entries entries_there legal legal_there few few_there agrees same =
    let world = after_entries (start_of line) before in
    let there = after_entries (start_of other) before_there in
    let events = events_of entries in
    let events_there = events_of entries_there in
    let room = room_behind line before entries few in
    let room_there = room_behind other before_there entries_there few_there in
    let world_is = is_run (start_of line) before (legal_before (start_of line) before entries legal) in
    let there_is = is_run (start_of other) before_there (legal_before (start_of other) before_there entries_there legal_there) in
    let own = room_of_events world entries room in
    let others = room_of_events there entries_there room_there in
    let kept : world.count + length (only_requests_of master events_there) < world.capacity =
    subst (λ (l : List Event). world.count + length l < world.capacity) same (room_of_kept world master events own) in
    sym (watched_same master address world entries (legal_behind (start_of line) before entries legal) room)
    ∙ lines isolates master address line line (events_of before) (events_of before) world world events world_is world_is (itself master address world there agrees) own
    (room_of_kept world master events own)
    ∙ ap (λ (l : List Event). watched master address world l) same
    ∙ sym (lines isolates master address other line (events_of before_there) (events_of before) there world events_there there_is world_is (turned master address world there agrees) others kept)
    ∙ watched_same master address there entries_there (legal_behind (start_of other) before_there entries_there legal_there) room_there

-- ---- repeats

-- what the law of lines says
abbrev Repeats : Type 0
Repeats = (line : Description) (before between : List Event) (master : ℕ) (octets reply : ArrayVec ℕ) (rule : Rule) (telegram : Telegram)
    → Spells octets.items (frames.Telegram telegram)
    → asks_srd (function_of telegram.fc) ≡ true
    → frame_count_is_valid telegram.fc ≡ true
    → (step (run (start_of line) before).world (Request master octets)).answer.outcome ≡ Reply reply rule
    → AllByRecursion (λ event. is_request_of master event ≡ false) between
    → takes_no_more (run (step (run (start_of line) before).world (Request master octets)).world between).world ≡ false
    → (step (run (step (run (start_of line) before).world (Request master octets)).world between).world (Request master octets)).answer.outcome ≡ Reply reply rules.Repeat

others_only : (master : ℕ) (entries : List Entry) → AllByRecursion (λ entry. is_request_of master entry.event ≡ false) entries
    → AllByRecursion (λ event. is_request_of master event ≡ false) (events_of entries)
others_only master [] all = tt
others_only master (entry ∷ entries) all = (all.0, others_only master entries all.1)

no_halt : (master : ℕ) (octets : ArrayVec ℕ) {X : Type 0} → Request master octets ≡ Operator Halt → X
no_halt master octets is = absurd cc

-- a request has no entry at the last place
below_by : (world : World) (entry : Entry) (master : ℕ) (octets : ArrayVec ℕ) (last : Bool) → is_last_place world ≡ last → Follows world entry → entry.event ≡ Request master octets
    → is_last_place world ≡ false
below_by world entry master octets true at follows is = no_halt master octets (sym is ∙ follows.halts_at_last at)
below_by world entry master octets false at follows is = at

below : (world : World) (entry : Entry) (master : ℕ) (octets : ArrayVec ℕ) → Follows world entry → entry.event ≡ Request master octets → is_last_place world ≡ false
below world entry master octets follows is = below_by world entry master octets (is_last_place world) refl follows is

-- so the line's answer to it has the outcome of the entry
pub outcome_is : (world : World) (entry : Entry) (master : ℕ) (octets : ArrayVec ℕ) → Follows world entry → entry.event ≡ Request master octets
    → (step world (Request master octets)).answer.outcome ≡ entry.outcome
outcome_is world entry master octets follows is =
    ap (λ (e : Event). (step world e).answer.outcome) (sym is)
    ∙ ap (λ (a : Step). a.outcome) (stepped world entry follows).answer_is
    ∙ ap (λ (b : Bool). (cond b (answer_replaced entry) (answer_recorded entry)).outcome) (below world entry master octets follows is)

world_is : (world : World) (entry : Entry) (master : ℕ) (octets : ArrayVec ℕ) → Follows world entry → entry.event ≡ Request master octets
    → (step world (Request master octets)).world ≡ after_entry world entry
world_is world entry master octets follows is = ap (λ (e : Event). (step world e).world) (sym is) ∙ (stepped world entry follows).world_is

takes_more : (world : World) → world.halted ≡ false → is_last_place world ≡ false → takes_no_more world ≡ false
takes_more world running room = rw (running, room) refl

pub repeated : Repeats → (line : Description) (before between rest : List Entry) (first again : Entry) (master : ℕ) (octets reply : ArrayVec ℕ) (rule : Rule) (telegram : Telegram)
    → IsLegal (start_of line) (before ++ first ∷ (between ++ again ∷ rest))
    → first.event ≡ Request master octets → again.event ≡ Request master octets
    → Spells octets.items (frames.Telegram telegram)
    → asks_srd (function_of telegram.fc) ≡ true → frame_count_is_valid telegram.fc ≡ true
    → first.outcome ≡ Reply reply rule
    → AllByRecursion (λ entry. is_request_of master entry.event ≡ false) between
    → again.outcome ≡ Reply reply rules.Repeat
repeated repeats line before between rest first again master octets reply rule telegram legal is_first is_again spelt srd valid replied others =
    let start = start_of line in
    let world = after_entries start before in
    let behind : IsLegal world (first ∷ (between ++ again ∷ rest)) = legal_behind start before (first ∷ (between ++ again ∷ rest)) legal in
    let after = after_entry world first in
    let now = after_entries after between in
    let follows : Follows now again = (legal_behind after between (again ∷ rest) behind.1).0 in
    let run_is : world ≡ (run start (events_of before)).world = is_run start before (legal_before start before (first ∷ (between ++ again ∷ rest)) legal) in
    let stepped_is : (step (run start (events_of before)).world (Request master octets)).world ≡ after =
    ap (λ (w : World). (step w (Request master octets)).world) (sym run_is) ∙ world_is world first master octets behind.0 is_first in
    let now_is : (run (step (run start (events_of before)).world (Request master octets)).world (events_of between)).world ≡ now =
    ap (λ (w : World). (run w (events_of between)).world) stepped_is ∙ sym (is_run after between (legal_before after between (again ∷ rest) behind.1)) in
    let law = repeats line (events_of before) (events_of between) master octets reply rule telegram spelt srd valid
    (ap (λ (w : World). (step w (Request master octets)).answer.outcome) (sym run_is) ∙ outcome_is world first master octets behind.0 is_first ∙ replied)
    (others_only master between others)
    (ap (λ (w : World). takes_no_more w) now_is ∙ takes_more now follows.running (below now again master octets follows is_again)) in
    sym (outcome_is now again master octets follows is_again) ∙ ap (λ (w : World). (step w (Request master octets)).answer.outcome) (sym now_is) ∙ law
