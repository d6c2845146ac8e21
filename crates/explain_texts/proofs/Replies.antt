-- An entry with a reply, and the slave that its request reached.
use Rattle.std.proofs.Common.{◌≡◌, ℕ, Bool, true, false, not, eqb, List, Option, Some, None, refl, sym, ap, subst, ◌∙◌}
use Rattle.std.specs.Prelude.{◌&&◌, is_none}
use Rattle.std.specs.Option.{option_and_then, option_map_or}
use Rattle.std.specs.List.{list_any}
use Rattle.std.proofs.lemmas.Bool.{and_parts, eqb-true}
use Rattle.arrayvec.specs.ArrayVec.{ArrayVec}
use Rattle.dp_telegram.specs.declared.frame.Telegram.{Telegram}
use Rattle.dp_telegram.specs.declared.access.Parts.{Parts}
use Rattle.dp_telegram.specs.Access.{address_of, parts_of}
use Rattle.dp_responder.specs.declared.rule.Rule.{Rule}
use Rattle.dp_responder.specs.declared.rule.Rule.TheVariants as rules
use Rattle.dp_slave.specs.SlaveRecord.{SlaveRecord}
use Rattle.dp_line.specs.declared.event.Event.{Event}
use Rattle.dp_line.specs.declared.event.Event.TheVariants.{Request}
use Rattle.dp_line.specs.declared.event.Outcome.{Outcome}
use Rattle.dp_line.specs.declared.event.Outcome.TheVariants.{Reply}
use Rattle.dp_line.specs.World.{World, slave_at}
use Rattle.dp_line.specs.Hearing.{heard, is_to_all, telegram_spelt}
use Rattle.dp_line.specs.Verdict.{rule_at, telegram_has}
use Rattle.dp_line.specs.ReplyText.{reply_text}
use Rattle.dp_line.specs.Served.{answered}
use Rattle.dp_line.specs.Effects.{outcome_heard, outcome_of}
use Rattle.explain_events.specs.Notes.{is_judged_anew}
use Rattle.explain_texts.specs.Repeats.{is_replied_anew, is_srd_to}
use Rattle.explain_texts.proofs.Reached.{IsConcerned, from_master, heard_by_slaves, heard_sender, heard_slave, outcome_is, outcome_one, replied_alone, replied_concerns, spelt_is}

-- ---- an entry that leaves a reply of this slave to this master

pub record IsAnew (slave master : ℕ) (event : Event) (outcome : Outcome) : Type 0 where
  pub octets : ArrayVec ℕ
  pub reply : ArrayVec ℕ
  pub rule : Rule
  pub telegram : Telegram
  pub request : event ≡ Request master octets
  pub reported : outcome ≡ Reply reply rule
  pub spelt : telegram_spelt octets.items ≡ Some telegram
  pub srd : is_srd_to slave telegram ≡ true
  pub anew : is_judged_anew rule ≡ true

anew_by : (slave master sender : ℕ) (octets reply : ArrayVec ℕ) (rule : Rule) (telegram : Option Telegram) → telegram_spelt octets.items ≡ telegram
    → (eqb sender master && is_judged_anew rule && option_map_or (is_srd_to slave) telegram false) ≡ true → IsAnew slave master (Request sender octets) (Reply reply rule)
anew_by slave master sender octets reply rule None spelt is =
    let both = and_parts (eqb sender master && is_judged_anew rule) false is in absurd (let e = both.1 in cc)
anew_by slave master sender octets reply rule (Some telegram) spelt is =
    let both = and_parts (eqb sender master && is_judged_anew rule) (is_srd_to slave telegram) is in
    let front = and_parts (eqb sender master) (is_judged_anew rule) both.0 in
    record {
      octets = octets;
      reply = reply;
      rule = rule;
      telegram = telegram;
      request = ap (λ (n : ℕ). Request n octets) (eqb-true sender master front.0);
      reported = refl;
      spelt = spelt;
      srd = both.1;
      anew = front.1;
    }

pub anew_parts : (slave master : ℕ) (event : Event) (outcome : Outcome) → is_replied_anew slave master event outcome ≡ true → IsAnew slave master event outcome
anew_parts slave master (Request sender octets) (Reply reply rule) is = anew_by slave master sender octets reply rule (telegram_spelt octets.items) refl is
anew_parts slave master event outcome is = absurd cc

-- ---- the slave that a request with a reply reached

record HasParts (parts : Option Parts) : Type 0 where
  read : Parts
  is : parts ≡ Some read

parts_there : (parts : Option Parts) → is_none parts ≡ false → HasParts parts
parts_there None there = absurd cc
parts_there (Some parts) there = record { read = parts; is = refl }

record HasSlave (slave : Option SlaveRecord) : Type 0 where
  found : SlaveRecord
  is : slave ≡ Some found

slave_there : (slave : Option SlaveRecord) → is_none slave ≡ false → HasSlave slave
slave_there None there = absurd cc
slave_there (Some slave) there = record { found = slave; is = refl }

-- the parts of an answer with a reply
record IsAnswer (answer : Option (List ℕ)) (rule : Rule) (reply : ArrayVec ℕ) (reported : Rule) : Type 0 where
  text : answer ≡ Some reply.items
  same : rule ≡ reported

answer_by : (rule : Rule) (answer : Option (List ℕ)) (reply : ArrayVec ℕ) (reported : Rule) → answered rule answer ≡ Reply reply reported → IsAnswer answer rule reply reported
answer_by rules.Done None reply reported is = absurd cc
answer_by rule None reply reported is = absurd cc
answer_by rule (Some text) reply reported is =
    let octets : record { items = text } ≡ reply = cc in
    record { text = ap (λ (r : ArrayVec ℕ). Some r.items) octets; same = cc }

-- a reply to a telegram, in this world
pub record IsMet (world : World) (master : ℕ) (octets reply : ArrayVec ℕ) (rule : Rule) (telegram : Telegram) : Type 0 where
  pub parts : Parts
  pub slave : SlaveRecord
  pub concerned : IsConcerned (heard world master octets.items) telegram parts
  pub alone : is_to_all telegram ≡ false
  pub here : slave_at world (address_of telegram.da) ≡ Some slave
  pub from : list_any (λ m. eqb m master) world.masters ≡ true
  pub ruled : rule_at master telegram parts slave ≡ rule
  pub replied : reply_text slave master telegram parts rule ≡ Some reply.items
  pub read : parts_of telegram ≡ Some parts

masters_heard : (world : World) (master : ℕ) (octets : List ℕ) → (heard world master octets).is_master ≡ list_any (λ m. eqb m master) world.masters
unfolding heard
masters_heard world master octets = refl

pub parts_heard : (world : World) (master : ℕ) (octets : List ℕ) → (heard world master octets).parts ≡ option_and_then parts_of (telegram_spelt octets)
unfolding heard
parts_heard world master octets = refl

there_by : (all none : Bool) → (not all && none) ≡ false → all ≡ false → none ≡ false
there_by true none e alone = absurd cc
there_by false none e alone = e

met_by : (world : World) (master : ℕ) (octets reply : ArrayVec ℕ) (rule : Rule) (telegram : Telegram) (parts : Parts) (slave : SlaveRecord) → telegram_spelt octets.items ≡ Some telegram
    → IsConcerned (heard world master octets.items) telegram parts → is_to_all telegram ≡ false → (heard world master octets.items).slave ≡ Some slave
    → outcome_heard (heard world master octets.items) ≡ Reply reply rule → IsMet world master octets reply rule telegram
met_by world master octets reply rule telegram parts slave spelt concerned alone found outcome =
    let hearing = heard world master octets.items in
    let reported = sym (outcome_one hearing telegram parts slave concerned alone found) ∙ outcome in
    let answers = subst (λ (n : ℕ). answered (rule_at n telegram parts slave) (reply_text slave n telegram parts (rule_at n telegram parts slave)) ≡ Reply reply rule)
    (heard_sender world master octets.items) reported in
    let answer = answer_by (rule_at master telegram parts slave) (reply_text slave master telegram parts (rule_at master telegram parts slave)) reply rule answers in
    record {
      parts = parts;
      slave = slave;
      concerned = concerned;
      alone = alone;
      here = sym (heard_slave world master octets.items telegram spelt alone) ∙ found;
      from = sym (masters_heard world master octets.items) ∙ from_master hearing concerned.concerned;
      ruled = answer.same;
      replied = ap (reply_text slave master telegram parts) (sym answer.same) ∙ answer.text;
      read = ap (option_and_then parts_of) (sym spelt) ∙ sym (parts_heard world master octets.items) ∙ concerned.read;
    }

pub met : (world : World) (master : ℕ) (octets reply : ArrayVec ℕ) (rule : Rule) (telegram : Telegram) → telegram_spelt octets.items ≡ Some telegram
    → outcome_of world (Request master octets) ≡ Reply reply rule → IsMet world master octets reply rule telegram
met world master octets reply rule telegram spelt reported =
    let hearing = heard world master octets.items in
    let outcome = sym (outcome_is world master octets) ∙ reported in
    let spells = spelt_is world master octets.items ∙ spelt in
    let concerns = replied_concerns hearing reply rule outcome in
    let alone = replied_alone hearing telegram reply rule spells outcome in
    let known = heard_by_slaves hearing concerns in
    let parts = parts_there hearing.parts known.extension in
    let one : telegram_has is_to_all hearing ≡ false = ap (λ (t : Option Telegram). option_map_or is_to_all t false) spells ∙ alone in
    let there = slave_there hearing.slave (there_by (telegram_has is_to_all hearing) (is_none hearing.slave) known.there one) in
    met_by world master octets reply rule telegram parts.read there.found spelt (record { concerned = concerns; spelt = spells; read = parts.is }) alone there.is outcome
