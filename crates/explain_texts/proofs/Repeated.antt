-- The request that is noted for a repeat is the one whose reply is sent again.
use Rattle.std.proofs.Common.{◌≡◌, ◌≢◌, ℕ, ◌+◌, Bool, true, false, cond, eqb, List, [], ◌∷◌, ◌++◌, map, Option, Some, None, refl, sym, ap, subst, ◌∙◌, append_assoc, arith}
use Rattle.std.specs.Prelude.{◌&&◌, find, is_none, is_some, option_map}
use Rattle.std.specs.Option.{IsSomeAnd, option_and_then}
use Rattle.std.specs.List.{AllByRecursion, cons_option, filter_map, list_any, range_with_len}
use Rattle.std.proofs.lemmas.Bool.{and_from, and_parts, both_ways, eqb-true, eq-eqb}
use Rattle.std.proofs.lemmas.List.{append-nil}
use Rattle.arrayvec.specs.ArrayVec.{ArrayVec}
use Rattle.dp_telegram.specs.declared.frame.Telegram.{Telegram}
use Rattle.dp_telegram.specs.declared.access.Parts.{Parts}
use Rattle.dp_telegram.specs.Access.{address_of, parts_of}
use Rattle.dp_telegram.specs.FunctionCode.{asks_srd, frame_count_bit, frame_count_is_valid, function_of}
use Rattle.dp_sap.specs.AccessTable.{access_row, is_listed}
use Rattle.dp_responder.specs.Memory.{MasterMemory, Remembered, is_repeat, kept_reply, no_memory, remembered_of, same_bit, with_remembered}
use Rattle.dp_responder.specs.Judgement.{refusal_rows}
use Rattle.dp_responder.specs.Rules.{first_row}
use Rattle.dp_responder.specs.declared.rule.Rule.{Rule}
use Rattle.dp_responder.specs.declared.rule.Rule.TheVariants as rules
use Rattle.dp_slave.specs.declared.description.SlaveSpec.{SlaveSpec}
use Rattle.dp_slave.specs.declared.view.SlaveView.{SlaveView}
use Rattle.dp_slave.specs.SlaveRecord.{SlaveRecord, points_of, starting_slave}
use Rattle.dp_slave.specs.View.{view_of}
use Rattle.dp_line.specs.declared.event.Event.{Event}
use Rattle.dp_line.specs.declared.event.Event.TheVariants.{Request}
use Rattle.dp_line.specs.declared.event.Outcome.TheVariants.{Reply}
use Rattle.dp_line.specs.World.{Description, World, address_of_slave, ascending, described_at, slave_among, slave_at, start_of}
use Rattle.dp_line.specs.Hearing.{heard, is_to_all, telegram_spelt}
use Rattle.dp_line.specs.Verdict.{is_fdl_status, is_not_selected, is_unserved, rule_at}
use Rattle.dp_line.specs.ReplyText.{reply_text}
use Rattle.dp_line.specs.Served.{memory_after_reply, served}
use Rattle.dp_line.specs.Effects.{effect, outcome_of, slave_after}
use Rattle.dp_audit.specs.declared.entry.Entry.{Entry}
use Rattle.dp_audit.specs.Legal.{Follows, IsLegal, after_entries, after_entry}
use Rattle.explain_events.specs.declared.notes.Noted.{Noted}
use Rattle.explain_events.specs.Notes.{has_octets, note_of, notes_after}
use Rattle.explain_events.specs.Releases.{release_of}
use Rattle.explain_events.specs.Refusals.{repeat_text}
use Rattle.explain_events.specs.Results.{result_row, result_rows, reported_of_parts, reported_of_telegram, reported_where_known}
use Rattle.explain_events.specs.Shown.{shown_at}
use Rattle.explain_events.specs.EventContexts.{AskedView, EventContextView}
use Rattle.explain_texts.specs.JournalReported.{known_behind_entries, known_behind_entry}
use Rattle.explain_texts.specs.Known.{KnownView, first_known}
use Rattle.explain_texts.specs.Repeats.{IsLastReplied, is_replied_anew, leaves_a_reply}
use Rattle.explain_texts.proofs.Reached.{at_after, found_address, heard_by_slaves, outcome_is, replied_concerns, way}
use Rattle.explain_texts.proofs.Noted.{has_after, has_note, note_given, note_left, noted_first}
use Rattle.explain_texts.proofs.UnchangedSlaves.{found_is, last_of}
use Rattle.explain_texts.proofs.FrameMemories.{new_remembered, anew_memory, served_memory, slave_served, either_one, way_memory}
use Rattle.explain_texts.proofs.Replies.{IsAnew, anew_parts, IsMet, met, parts_heard}

-- ---- this holds after every entry

-- the last reply of the slave to the master is noted with its request
record IsReplyNoted (entries : List Entry) (notes : List Noted) (slave master : ℕ) (fcb : Bool) (reply : List ℕ) : Type 0 where
  note : Noted
  found : note_of notes slave master ≡ Some note
  last : IsLastReplied entries slave master note.place note.octets fcb reply

record IsKept (line : Description) (done : List Entry) (known : KnownView) : Type 0 where
  described : known.context.description ≡ line
  masters : known.context.world.masters ≡ line.masters
  stations : (address : ℕ) (slave : SlaveRecord) → slave_at known.context.world address ≡ Some slave → is_some (described_at line.slaves address) ≡ true
  noted : (address master : ℕ) → is_some (described_at line.slaves address) ≡ true → list_any (λ m. eqb m master) line.masters ≡ true → has_note known.context.notes address master ≡ true
  replies : (address master : ℕ) (slave : SlaveRecord) (last : Remembered) → slave_at known.context.world address ≡ Some slave → remembered_of slave.memory master ≡ Some last
      → IsReplyNoted done known.context.notes address master last.fcb last.reply

all_push : (P : Entry → Type 0) (entries : List Entry) (entry : Entry) → AllByRecursion P entries → P entry → AllByRecursion P (entries ++ entry ∷ [])
all_push P [] entry all one = (one, tt)
all_push P (first ∷ entries) entry all one = (all.0, all_push P entries entry all.1 one)

one_behind : (done : List Entry) (entry : Entry) (address master place : ℕ) (octets : ArrayVec ℕ) (fcb : Bool) (reply : List ℕ) → leaves_a_reply address master entry ≡ false
    → IsLastReplied done address master place octets fcb reply → IsLastReplied (done ++ entry ∷ []) address master place octets fcb reply
one_behind done entry address master place octets fcb reply none is = record {
  front = is.front;
  asked = is.asked;
  behind = is.behind ++ entry ∷ [];
  split = ap (λ (l : List Entry). l ++ entry ∷ []) is.split ∙ append_assoc is.front (is.asked ∷ is.behind) (entry ∷ []);
  at = is.at;
  last = all_push (λ e. leaves_a_reply address master e ≡ false) is.behind entry is.last none;
  request = is.request;
  telegram = is.telegram;
  spelt = is.spelt;
  to_slave = is.to_slave;
  count_bit = is.count_bit;
  rule = is.rule;
  anew = is.anew;
  replied = is.replied;
}

new_last : (line : Description) (done : List Entry) (known : KnownView) (entry : Entry) (address master : ℕ) (slave : SlaveRecord) (last : Remembered) → IsKept line done known
    → Follows known.context.world entry → slave_at known.context.world address ≡ Some slave → remembered_of (slave_after known.context.world entry.event slave).memory master ≡ Some last
    → IsAnew address master entry.event entry.outcome
    → IsReplyNoted (done ++ entry ∷ []) (notes_after known.context.notes entry.place entry.event entry.outcome) address master last.fcb last.reply
new_last line done known entry address master slave last kept follows here remembered is =
    let world = known.context.world in
    let reported = ap (outcome_of world) (sym is.request) ∙ sym follows.outcome ∙ is.reported in
    let m = met world master is.octets is.reply is.rule is.telegram is.spelt reported in
    let both = and_parts (asks_srd (function_of is.telegram.fc)) (eqb (address_of is.telegram.da) address) is.srd in
    let at = eqb-true (address_of is.telegram.da) address both.1 in
    let there = ap (slave_at world) (sym at) ∙ m.here in
    let mine : m.slave ≡ slave = let found = sym there ∙ here in cc in
    let asked = either_one (is_to_all is.telegram) (eqb (address_of_slave m.slave) (address_of is.telegram.da))
    (eq-eqb (address_of_slave m.slave) (address_of is.telegram.da) (found_address world.slaves (address_of is.telegram.da) m.slave m.here)) in
    let after : slave_after world entry.event slave ≡ served m.slave master (world.count + 1) is.telegram m.parts =
    ap (λ (e : Event). slave_after world e slave) is.request ∙ ap (slave_after world (Request master is.octets)) (sym mine)
    ∙ slave_served world master is.octets m.slave is.telegram m.parts m.concerned asked in
    let memory : (slave_after world entry.event slave).memory ≡ with_remembered m.slave.memory master is.telegram.fc is.reply.items =
    ap (λ (s : SlaveRecord). s.memory) after
    ∙ served_memory m.slave master (world.count + 1) is.telegram m.parts
    ∙ ap (λ (rule : Rule). memory_after_reply m.slave master is.telegram rule (reply_text m.slave master is.telegram m.parts rule)) m.ruled
    ∙ ap (memory_after_reply m.slave master is.telegram is.rule) m.replied
    ∙ anew_memory m.slave master is.telegram is.rule is.reply.items is.anew in
    let new = new_remembered m.slave.memory master is.telegram.fc is.reply.items last both.0 (ap (λ (l : List MasterMemory). remembered_of l master) (sym memory) ∙ remembered) in
    let note = kept.noted address master (kept.stations address slave here) (ap (list_any (λ n. eqb n master)) (sym kept.masters) ∙ m.from) in
    let given = note_given address master entry.place known.context.notes is.octets is.reply is.rule is.telegram is.spelt is.srd is.anew note in
    let after : notes_after known.context.notes entry.place entry.event entry.outcome ≡ notes_after known.context.notes entry.place (Request master is.octets) (Reply is.reply is.rule) =
    ap (λ (e : Event). notes_after known.context.notes entry.place e entry.outcome) is.request
    ∙ ap (notes_after known.context.notes entry.place (Request master is.octets)) is.reported in
    record {
      note = given.note;
      found = ap (λ (l : List Noted). note_of l address master) after ∙ given.found;
      last = record {
        front = done;
        asked = entry;
        behind = [];
        split = refl;
        at = sym given.at;
        last = tt;
        request = is.request ∙ ap (Request master) (sym given.spelt);
        telegram = is.telegram;
        spelt = ap (λ (o : ArrayVec ℕ). telegram_spelt o.items) given.spelt ∙ is.spelt;
        to_slave = is.srd;
        count_bit = new.bit;
        rule = is.rule;
        anew = is.anew;
        replied = is.reported ∙ ap (λ (text : List ℕ). Reply (record { items = text }) is.rule) new.text;
      };
    }

replies_by : (line : Description) (done : List Entry) (known : KnownView) (entry : Entry) (address master : ℕ) (slave : SlaveRecord) (last : Remembered) (b : Bool)
    → is_replied_anew address master entry.event entry.outcome ≡ b → IsKept line done known → Follows known.context.world entry → slave_at known.context.world address ≡ Some slave
    → remembered_of (slave_after known.context.world entry.event slave).memory master ≡ Some last
    → IsReplyNoted (done ++ entry ∷ []) (notes_after known.context.notes entry.place entry.event entry.outcome) address master last.fcb last.reply
replies_by line done known entry address master slave last true is kept follows here remembered =
    new_last line done known entry address master slave last kept follows here remembered (anew_parts address master entry.event entry.outcome is)
replies_by line done known entry address master slave last false none kept follows here remembered =
    let world = known.context.world in
    let same = way_memory world entry.event entry.outcome address master slave (slave_after world entry.event slave) here follows.outcome none (way world entry.event slave) in
    let before = kept.replies address master slave last here (sym same ∙ remembered) in
    record {
      note = before.note;
      found = note_left address master entry.place known.context.notes entry.event entry.outcome none ∙ before.found;
      last = one_behind done entry address master before.note.place before.note.octets last.fcb last.reply none before.last;
    }

-- the slave at an address before an entry
record IsBefore (world : World) (event : Event) (address : ℕ) (after : SlaveRecord) : Type 0 where
  slave : SlaveRecord
  here : slave_at world address ≡ Some slave
  is : slave_after world event slave ≡ after

before_by : (world : World) (event : Event) (address : ℕ) (after : SlaveRecord) (found : Option SlaveRecord) → slave_at world address ≡ found → option_map (slave_after world event) found ≡ Some after
    → IsBefore world event address after
before_by world event address after None here is = absurd cc
before_by world event address after (Some slave) here is = record { slave = slave; here = here; is = cc }

slave_before : (world : World) (event : Event) (address : ℕ) (after : SlaveRecord) → slave_at (effect world event).world address ≡ Some after → IsBefore world event address after
slave_before world event address after there = before_by world event address after (slave_at world address) refl (sym (at_after world event address) ∙ there)

masters_after : (world : World) (event : Event) → (effect world event).world.masters ≡ world.masters
unfolding effect
masters_after world event = refl

kept_entry : (line : Description) (done : List Entry) (known : KnownView) (entry : Entry) → IsKept line done known → Follows known.context.world entry
    → IsKept line (done ++ entry ∷ []) (known_behind_entry known entry)
kept_entry line done known entry kept follows =
    let world = known.context.world in
    record {
      described = kept.described;
      masters = masters_after world entry.event ∙ kept.masters;
      stations = λ address after there.
          let before = slave_before world entry.event address after there in kept.stations address before.slave before.here;
      noted = λ address master here known_master.
          has_after address master entry.place known.context.notes entry.event entry.outcome ∙ kept.noted address master here known_master;
      replies = λ address master after last there remembered.
          let before = slave_before world entry.event address after there in
          replies_by line done known entry address master before.slave last (is_replied_anew address master entry.event entry.outcome) refl kept follows before.here
          (ap (λ (s : SlaveRecord). remembered_of s.memory master) before.is ∙ remembered);
    }

kept_entries : (line : Description) (done : List Entry) (known : KnownView) (entries : List Entry) → IsKept line done known → IsLegal known.context.world entries
    → IsKept line (done ++ entries) (known_behind_entries known entries)
kept_entries line done known [] kept legal = subst (λ (l : List Entry). IsKept line l known) (sym (append-nil done)) kept
kept_entries line done known (entry ∷ entries) kept legal =
    subst (λ (l : List Entry). IsKept line l (known_behind_entries (known_behind_entry known entry) entries)) (append_assoc done (entry ∷ []) entries)
    (kept_entries line (done ++ entry ∷ []) (known_behind_entry known entry) entries (kept_entry line done known entry kept legal.0) legal.1)

world_known : (known : KnownView) (entries : List Entry) → (known_behind_entries known entries).context.world ≡ after_entries known.context.world entries
world_known known [] = refl
world_known known (entry ∷ entries) = world_known (known_behind_entry known entry) entries

-- ---- at the start

spec_by : (first found : SlaveSpec) (address : ℕ) (others : Option SlaveSpec) (b : Bool) → eqb first.address address ≡ b → (others ≡ Some found → found.address ≡ address) → cond b (Some first) others ≡ Some found
    → found.address ≡ address
spec_by first found address others true e more is = let same : found ≡ first = cc in ap (λ (s : SlaveSpec). s.address) same ∙ eqb-true first.address address e
spec_by first found address others false e more is = more is

spec_address : (slaves : List SlaveSpec) (address : ℕ) (found : SlaveSpec) → described_at slaves address ≡ Some found → found.address ≡ address
spec_address [] address found is = absurd cc
spec_address (first ∷ slaves) address found is = spec_by first found address (described_at slaves address) (eqb first.address address) refl (spec_address slaves address found) is

there_spec : (masters : List ℕ) (slaves : List SlaveSpec) (at address : ℕ) (found : SlaveSpec) (others : Option SlaveRecord) (slave : SlaveRecord) (b : Bool) → eqb found.address address ≡ b
    → described_at slaves at ≡ Some found → (others ≡ Some slave → is_some (described_at slaves address) ≡ true) → cond b (Some (starting_slave masters found)) others ≡ Some slave
    → is_some (described_at slaves address) ≡ true
there_spec masters slaves at address found others slave true e is more here =
    let same = sym (spec_address slaves at found is) ∙ eqb-true found.address address e in
    ap (λ (a : ℕ). is_some (described_at slaves a)) (sym same) ∙ ap is_some is
there_spec masters slaves at address found others slave false e is more here = more here

spec_cases : (masters : List ℕ) (slaves others : List SlaveSpec) (at address : ℕ) (found : Option SlaveSpec) (slave : SlaveRecord) → described_at slaves at ≡ found
    → (slave_among (map (starting_slave masters) others) address ≡ Some slave → is_some (described_at slaves address) ≡ true)
    → slave_among (map (starting_slave masters) (cons_option found others)) address ≡ Some slave → is_some (described_at slaves address) ≡ true
spec_cases masters slaves others at address None slave is more here = more here
spec_cases masters slaves others at address (Some found) slave is more here =
    there_spec masters slaves at address found (slave_among (map (starting_slave masters) others) address) slave (eqb found.address address) refl is more here

there_described : (masters : List ℕ) (slaves : List SlaveSpec) (addresses : List ℕ) (address : ℕ) (slave : SlaveRecord)
    → slave_among (map (starting_slave masters) (filter_map (described_at slaves) addresses)) address ≡ Some slave → is_some (described_at slaves address) ≡ true
there_described masters slaves [] address slave here = absurd cc
there_described masters slaves (at ∷ addresses) address slave here =
    spec_cases masters slaves (filter_map (described_at slaves) addresses) at address (described_at slaves at) slave refl (there_described masters slaves addresses address slave) here

start_described : (line : Description) (address : ℕ) (slave : SlaveRecord) → slave_at (start_of line) address ≡ Some slave → is_some (described_at line.slaves address) ≡ true
unfolding ascending
start_described line address slave here = there_described line.masters line.slaves (range_with_len 0 127) address slave here

empty_by : (first master : ℕ) (b : Bool) (found : Option MasterMemory) → option_and_then (λ m. m.last) found ≡ None → option_and_then (λ m. m.last) (cond b (Some (record { master = first; last = None })) found) ≡ None
empty_by first master true found none = refl
empty_by first master false found none = none

empty_memory : (masters : List ℕ) (master : ℕ) → remembered_of (no_memory masters) master ≡ None
empty_memory [] master = refl
empty_memory (first ∷ masters) master = empty_by first master (eqb first master) (find (λ m. eqb m.master master) (no_memory masters)) (empty_memory masters master)

all_empty : (masters : List ℕ) (descriptions : List SlaveSpec) → AllByRecursion (λ slave. slave.memory ≡ no_memory masters) (map (starting_slave masters) descriptions)
all_empty masters [] = tt
all_empty masters (description ∷ descriptions) = (refl, all_empty masters descriptions)

kept_first : (line : Description) (places : ℕ) → IsKept line [] (first_known line places)
kept_first line places = record {
  described = refl;
  masters = refl;
  stations = start_described line;
  noted = λ address master here known. noted_first line.slaves line.masters address master here known;
  replies = λ address master slave last here remembered.
      let memory = found_is (λ s. s.memory ≡ no_memory line.masters) (map (starting_slave line.masters) (ascending line.slaves)) address slave (all_empty line.masters (ascending line.slaves)) here in
      absurd (let none = ap (λ (m : List MasterMemory). remembered_of m master) memory ∙ empty_memory line.masters master in
      let e : ◌≡◌ {A = Option Remembered} None (Some last) = sym none ∙ remembered in cc);
}

-- ---- a repeat

is_again : Rule → Bool
is_again rules.Repeat = true
is_again other = false

past_row : (b : Bool) (rule rest : Rule) → is_again rule ≡ false → cond b rule rest ≡ rules.Repeat → rest ≡ rules.Repeat
unfolding is_again
past_row true rule rest other is = absurd (both_ways (is_again rule) other (ap is_again is))
past_row false rule rest other is = is

none_by : (b : Bool) (rule rest : Rule) → is_again rule ≡ false → is_again rest ≡ false → is_again (cond b rule rest) ≡ false
none_by true rule rest one other = one
none_by false rule rest one other = other

none_again : (rows : List (Bool × Rule)) → AllByRecursion (λ row. is_again row.1 ≡ false) rows → is_again (first_row rows) ≡ false
unfolding is_again
none_again [] all = refl
none_again (row ∷ rows) all = none_by row.0 row.1 (first_row rows) all.0 (none_again rows all.1)

own_row : (b : Bool) (rest : Rule) → is_again rest ≡ false → is_again (cond b rules.Repeat rest) ≡ true → b ≡ true
own_row true rest none is = refl
own_row false rest none is = absurd (both_ways (is_again rest) none is)

-- the rules of a slave that are checked after the repeat
abbrev refusals : ℕ → Telegram → Parts → SlaveRecord → List (Bool × Rule)
refusals sender telegram parts slave =
    refusal_rows (access_row (points_of slave) parts.dsap) (is_listed (points_of slave) parts.dsap sender) sender telegram.fc parts.payload.items ++ (is_not_selected parts slave, rules.NotSelected) ∷ []

repeat_row : (sender : ℕ) (telegram : Telegram) (parts : Parts) (slave : SlaveRecord) → rule_at sender telegram parts slave ≡ rules.Repeat → is_repeat (remembered_of slave.memory sender) telegram.fc ≡ true
unfolding rule_at is_again
repeat_row sender telegram parts slave is =
    let unserved = past_row (is_fdl_status telegram) rules.Status _ refl is in
    let again = past_row (is_unserved telegram) rules.NoService _ refl unserved in
    own_row (is_repeat (remembered_of slave.memory sender) telegram.fc) (first_row (refusals sender telegram parts slave))
    (none_again (refusals sender telegram parts slave) (refl, (refl, (refl, (refl, (refl, (refl, (refl, tt)))))))) (ap is_again again)

record IsAgain (remembered : Option Remembered) (fc : ℕ) : Type 0 where
  last : Remembered
  is : remembered ≡ Some last
  bit : last.fcb ≡ frame_count_bit fc

bits_same : (a b : Bool) → same_bit a b ≡ true → a ≡ b
bits_same true b is = sym is
bits_same false true is = absurd cc
bits_same false false is = refl

again_by : (remembered : Option Remembered) (fc : ℕ) → is_repeat remembered fc ≡ true → IsAgain remembered fc
again_by None fc is = absurd cc
again_by (Some last) fc is =
    let both = and_parts (asks_srd (function_of fc) && frame_count_is_valid fc) (same_bit last.fcb (frame_count_bit fc)) is in
    record { last = last; is = refl; bit = bits_same last.fcb (frame_count_bit fc) both.1 }

kept_text : (slave : SlaveRecord) (sender : ℕ) (telegram : Telegram) (parts : Parts) → reply_text slave sender telegram parts rules.Repeat ≡ Some (kept_reply (remembered_of slave.memory sender))
unfolding reply_text
kept_text slave sender telegram parts = refl

some_parts : {A : Type 0} (a b : A) → Some a ≡ Some b → a ≡ b
some_parts a b is = cc

-- what is known before an entry, and the slave that its request reached
record IsReported (line : Description) (places : ℕ) (before : List Entry) (entry : Entry) (master : ℕ) (octets reply : ArrayVec ℕ) (telegram : Telegram) : Type 0 where
  kept : IsKept line before (known_behind_entries (first_known line places) before)
  met_there : IsMet (known_behind_entries (first_known line places) before).context.world master octets reply rules.Repeat telegram

reported_there : (line : Description) (places : ℕ) (before : List Entry) (entry : Entry) (master : ℕ) (octets reply : ArrayVec ℕ) (telegram : Telegram) → IsLegal (start_of (record line { capacity = places })) (before ++ entry ∷ [])
    → entry.event ≡ Request master octets → telegram_spelt octets.items ≡ Some telegram → entry.outcome ≡ Reply reply rules.Repeat → IsReported line places before entry master octets reply telegram
reported_there line places before entry master octets reply telegram legal request spelt reported =
    let last = last_of (start_of (record line { capacity = places })) before entry legal in
    let world = (known_behind_entries (first_known line places) before).context.world in
    let same = sym (world_known (first_known line places) before) in
    let follows = subst (λ (w : World). Follows w entry) same last.follows in
    record {
      kept = kept_entries line [] (first_known line places) before (kept_first line places) last.legal;
      met_there = met world master octets reply rules.Repeat telegram spelt (ap (outcome_of world) (sym request) ∙ sym follows.outcome ∙ reported);
    }

some_there : (parts : Option Parts) → is_none parts ≡ false → is_some parts ≡ true
some_there None there = absurd cc
some_there (Some parts) there = refl

-- a request that gets a reply is a telegram whose access points can be read
pub replied_telegram : (line : Description) (places : ℕ) (before : List Entry) (entry : Entry) (master : ℕ) (octets reply : ArrayVec ℕ) (rule : Rule) → IsLegal (start_of (record line { capacity = places })) (before ++ entry ∷ [])
    → entry.event ≡ Request master octets → entry.outcome ≡ Reply reply rule → is_some (option_and_then parts_of (telegram_spelt octets.items)) ≡ true
replied_telegram line places before entry master octets reply rule legal request reported =
    let last = last_of (start_of (record line { capacity = places })) before entry legal in
    let world = after_entries (start_of (record line { capacity = places })) before in
    let outcome = sym (outcome_is world master octets) ∙ ap (outcome_of world) (sym request) ∙ sym last.follows.outcome ∙ reported in
    let known = heard_by_slaves (heard world master octets.items) (replied_concerns (heard world master octets.items) reply rule outcome) in
    ap is_some (sym (parts_heard world master octets.items)) ∙ some_there (heard world master octets.items).parts known.extension

some_and : (P : Noted → Type 0) (found : Option Noted) (note : Noted) → found ≡ Some note → P note → IsSomeAnd found P
some_and P found note is holds = subst (λ (f : Option Noted). IsSomeAnd f P) (sym is) holds

pub repeats : (line : Description) (places : ℕ) (before : List Entry) (entry : Entry) (master : ℕ) (octets reply : ArrayVec ℕ) (telegram : Telegram) → IsLegal (start_of (record line { capacity = places })) (before ++ entry ∷ [])
    → entry.event ≡ Request master octets → telegram_spelt octets.items ≡ Some telegram → entry.outcome ≡ Reply reply rules.Repeat
    → IsSomeAnd (note_of (known_behind_entries (first_known line places) before).context.notes (address_of telegram.da) master)
    (λ noted. IsLastReplied before (address_of telegram.da) master noted.place noted.octets (frame_count_bit telegram.fc) reply.items)
repeats line places before entry master octets reply telegram legal request spelt reported =
    let there = reported_there line places before entry master octets reply telegram legal request spelt reported in
    let notes = (known_behind_entries (first_known line places) before).context.notes in
    let m = there.met_there in
    let again = again_by (remembered_of m.slave.memory master) telegram.fc (repeat_row master telegram m.parts m.slave m.ruled) in
    let text : again.last.reply ≡ reply.items =
    ap kept_reply (sym again.is) ∙ some_parts _ _ (sym (kept_text m.slave master telegram m.parts) ∙ m.replied) in
    let kept = there.kept.replies (address_of telegram.da) master m.slave again.last m.here again.is in
    some_and (λ noted. IsLastReplied before (address_of telegram.da) master noted.place noted.octets (frame_count_bit telegram.fc) reply.items) (note_of notes (address_of telegram.da) master) kept.note kept.found
    (subst (λ (r : List ℕ). IsLastReplied before (address_of telegram.da) master kept.note.place kept.note.octets (frame_count_bit telegram.fc) r) text
    (subst (λ (b : Bool). IsLastReplied before (address_of telegram.da) master kept.note.place kept.note.octets b again.last.reply) again.bit kept.last))

-- the request has a place from 1
legal_at : (world : World) (front : List Entry) (asked : Entry) (behind : List Entry) → IsLegal world (front ++ asked ∷ behind) → asked.place ≡ (after_entries world front).count + 1
legal_at world [] asked behind legal = legal.0.place
legal_at world (entry ∷ front) asked behind legal = legal_at (after_entry world entry) front asked behind legal.1

and_holds : (P : Noted → Type 0) (found : Option Noted) (note : Noted) → found ≡ Some note → IsSomeAnd found P → P note
and_holds P found note is holds = subst (λ (f : Option Noted). IsSomeAnd f P) is holds

not_first : (place count : ℕ) → place ≡ count + 1 → place ≢ 0
not_first place count is none = omega arith

pub placed : (line : Description) (places : ℕ) (before : List Entry) (entry : Entry) (master : ℕ) (octets reply : ArrayVec ℕ) (telegram : Telegram) (noted : Noted) → IsLegal (start_of (record line { capacity = places })) (before ++ entry ∷ [])
    → entry.event ≡ Request master octets → telegram_spelt octets.items ≡ Some telegram → entry.outcome ≡ Reply reply rules.Repeat
    → note_of (known_behind_entries (first_known line places) before).context.notes (address_of telegram.da) master ≡ Some noted → noted.place ≢ 0
placed line places before entry master octets reply telegram noted legal request spelt reported found =
    let start = start_of (record line { capacity = places }) in
    let last =
    and_holds (λ note. IsLastReplied before (address_of telegram.da) master note.place note.octets (frame_count_bit telegram.fc) reply.items) _ noted found
    (repeats line places before entry master octets reply telegram legal request spelt reported) in
    not_first noted.place (after_entries start last.front).count
    (sym last.at ∙ legal_at start last.front last.asked last.behind (subst (IsLegal start) last.split (last_of start before entry legal).legal))

-- ---- the row names this request

record IsDescribed (found : Option SlaveSpec) : Type 0 where
  description : SlaveSpec
  is : found ≡ Some description

described_there : (found : Option SlaveSpec) → is_some found ≡ true → IsDescribed found
described_there None there = absurd cc
described_there (Some description) there = record { description = description; is = refl }

row_by : (context : EventContextView) (master : ℕ) (octets reply : ArrayVec ℕ) (telegram : Telegram) (parts : Parts) (noted : Noted) (description : SlaveSpec) (slave : SlaveView) → telegram_spelt octets.items ≡ Some telegram
    → parts_of telegram ≡ Some parts → note_of context.notes (address_of telegram.da) master ≡ Some noted → described_at context.description.slaves (address_of telegram.da) ≡ Some description
    → shown_at context.world (address_of telegram.da) ≡ Some slave
    → result_rows context (Request master octets) (Reply reply rules.Repeat)
    ≡ result_row (repeat_text (has_octets (Some noted) octets.items) noted.place parts.dsap parts.payload.items)
row_by context master octets reply telegram parts noted description slave spelt read found described shown =
    let asked : AskedView = record { master = master; octets = octets.items; telegram = telegram; parts = parts } in
    let address = address_of telegram.da in
    ap (λ (t : Option Telegram). result_row (reported_of_telegram context master octets.items false rules.Repeat t)) spelt
    ∙ ap (λ (p : Option Parts). result_row (reported_of_parts context master octets.items false rules.Repeat telegram p)) read
    ∙ ap (λ (n : Option Noted). result_row (reported_where_known asked n (release_of context.releases address) false rules.Repeat (described_at context.description.slaves address) (shown_at context.world address))) found
    ∙ ap (λ (d : Option SlaveSpec). result_row (reported_where_known asked (Some noted) (release_of context.releases address) false rules.Repeat d (shown_at context.world address))) described
    ∙ ap (λ (s : Option SlaveView). result_row (reported_where_known asked (Some noted) (release_of context.releases address) false rules.Repeat (Some description) s)) shown

-- equal octets are found equal, and others are not
abbrev are_same : List ℕ → List ℕ → Bool
are_same octets others = has_octets (Some (record { slave = 0; master = 0; place = 0; octets = record { items = octets } })) others

same_self : (octets : List ℕ) → are_same octets octets ≡ true
same_self [] = refl
same_self (octet ∷ octets) = and_from (eqb octet octet) (are_same octets octets) (eq-eqb octet octet refl) (same_self octets)

same_is : (octets others : List ℕ) → are_same octets others ≡ true → octets ≡ others
same_is [] [] is = refl
same_is [] (other ∷ others) is = absurd cc
same_is (octet ∷ octets) [] is = absurd cc
same_is (octet ∷ octets) (other ∷ others) is =
    let both = and_parts (eqb octet other) (are_same octets others) is in
    ap (λ (o : ℕ). o ∷ octets) (eqb-true octet other both.0) ∙ ap (λ (l : List ℕ). other ∷ l) (same_is octets others both.1)

not_true : (b : Bool) → (b ≡ true → ⊥) → b ≡ false
not_true true none = absurd (none refl)
not_true false none = refl

-- the row of a repeat whose octets are those of the noted request, or are not
row_reported : (line : Description) (places : ℕ) (before : List Entry) (entry : Entry) (master : ℕ) (octets reply : ArrayVec ℕ) (telegram : Telegram) (parts : Parts) (noted : Noted) (same : Bool)
    → IsLegal (start_of (record line { capacity = places })) (before ++ entry ∷ [])
    → entry.event ≡ Request master octets → telegram_spelt octets.items ≡ Some telegram → parts_of telegram ≡ Some parts → entry.outcome ≡ Reply reply rules.Repeat
    → note_of (known_behind_entries (first_known line places) before).context.notes (address_of telegram.da) master ≡ Some noted → has_octets (Some noted) octets.items ≡ same
    → result_rows (known_behind_entries (first_known line places) before).context entry.event entry.outcome
    ≡ result_row (repeat_text same noted.place parts.dsap parts.payload.items)
row_reported line places before entry master octets reply telegram parts noted same legal request spelt read reported found is =
    let there = reported_there line places before entry master octets reply telegram legal request spelt reported in
    let context = (known_behind_entries (first_known line places) before).context in
    let m = there.met_there in
    let spec = described_there (described_at line.slaves (address_of telegram.da)) (there.kept.stations (address_of telegram.da) m.slave m.here) in
    let described = ap (λ (d : Description). described_at d.slaves (address_of telegram.da)) there.kept.described ∙ spec.is in
    ap (λ (e : Event). result_rows context e entry.outcome) request
    ∙ ap (result_rows context (Request master octets)) reported
    ∙ row_by context master octets reply telegram parts noted spec.description (view_of m.slave) spelt read found described (ap (option_map view_of) m.here)
    ∙ ap (λ (b : Bool). result_row (repeat_text b noted.place parts.dsap parts.payload.items)) is

pub retry_reported : (line : Description) (places : ℕ) (before : List Entry) (entry : Entry) (master : ℕ) (octets reply : ArrayVec ℕ) (telegram : Telegram) (parts : Parts) (noted : Noted)
    → IsLegal (start_of (record line { capacity = places })) (before ++ entry ∷ [])
    → entry.event ≡ Request master octets → telegram_spelt octets.items ≡ Some telegram → parts_of telegram ≡ Some parts → entry.outcome ≡ Reply reply rules.Repeat
    → note_of (known_behind_entries (first_known line places) before).context.notes (address_of telegram.da) master ≡ Some noted → noted.octets.items ≡ octets.items
    → result_rows (known_behind_entries (first_known line places) before).context entry.event entry.outcome
    ≡ result_row (repeat_text true noted.place parts.dsap parts.payload.items)
retry_reported line places before entry master octets reply telegram parts noted legal request spelt read reported found same =
    row_reported line places before entry master octets reply telegram parts noted true legal request spelt read reported found
    (ap (λ (l : List ℕ). are_same l octets.items) same ∙ same_self octets.items)

pub other_reported : (line : Description) (places : ℕ) (before : List Entry) (entry : Entry) (master : ℕ) (octets reply : ArrayVec ℕ) (telegram : Telegram) (parts : Parts) (noted : Noted)
    → IsLegal (start_of (record line { capacity = places })) (before ++ entry ∷ [])
    → entry.event ≡ Request master octets → telegram_spelt octets.items ≡ Some telegram → parts_of telegram ≡ Some parts → entry.outcome ≡ Reply reply rules.Repeat
    → note_of (known_behind_entries (first_known line places) before).context.notes (address_of telegram.da) master ≡ Some noted → noted.octets.items ≢ octets.items
    → result_rows (known_behind_entries (first_known line places) before).context entry.event entry.outcome
    ≡ result_row (repeat_text false noted.place parts.dsap parts.payload.items)
other_reported line places before entry master octets reply telegram parts noted legal request spelt read reported found apart =
    row_reported line places before entry master octets reply telegram parts noted false legal request spelt read reported found
    (not_true (has_octets (Some noted) octets.items) (λ same. apart (same_is noted.octets.items octets.items same)))
