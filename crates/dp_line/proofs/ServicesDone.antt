-- What a request that is done leaves of the slaves that it asks.
use Rattle.std.proofs.Common.{◌≡◌, ℕ, ◌+◌, Bool, true, false, cond, List, [], ◌∷◌, Option, Some, refl, sym, ap, ◌∙◌}
use Rattle.std.specs.Prelude.{◌&&◌, ◌||◌}
use Rattle.std.specs.Option.{option_and_then}
use Rattle.std.proofs.lemmas.Bool.{and_parts, eq-eqb, eqb-true}
use Rattle.std.proofs.lemmas.Option.{same_Some}
use Rattle.arrayvec.specs.ArrayVec.{ArrayVec}
use Rattle.dp_telegram.specs.declared.frame.Frame.TheVariants as frames
use Rattle.dp_telegram.specs.declared.frame.Telegram.{Telegram}
use Rattle.dp_telegram.specs.declared.access.Parts.{Parts}
use Rattle.dp_telegram.specs.FrameText.{Spells}
use Rattle.dp_telegram.specs.Access.{address_of, parts_of}
use Rattle.dp_sap.specs.AccessTable.{chk_cfg}
use Rattle.dp_cfg.specs.Choosing.{chosen}
use Rattle.dp_responder.specs.Memory.{MasterMemory, with_remembered}
use Rattle.dp_responder.specs.declared.rule.Rule.{Rule}
use Rattle.dp_responder.specs.declared.rule.Rule.TheVariants as rules
use Rattle.dp_slave.specs.SlaveRecord.{SlaveRecord, configurations, inputs_of, outputs_of}
use Rattle.dp_slave.specs.Acts.{Act, configures}
use Rattle.dp_slave.specs.Fields.{acted}
use Rattle.dp_slave.specs.Services.{cfg_act, service_act}
use Rattle.dp_slave.specs.Soundness.{IsSound}
use Rattle.dp_line.specs.declared.event.Event.{Event}
use Rattle.dp_line.specs.declared.event.Event.TheVariants.{Request}
use Rattle.dp_line.specs.declared.event.Outcome.{Outcome}
use Rattle.dp_line.specs.declared.event.Outcome.TheVariants.{Reply}
use Rattle.dp_line.specs.World.{Description, World, address_of_slave, slave_at, start_of, takes_no_more}
use Rattle.dp_line.specs.Hearing.{heard, is_to_all, telegram_of_frame}
use Rattle.dp_line.specs.Verdict.{concerns_a_slave, rule_at, telegram_has, verdict_of}
use Rattle.dp_line.specs.ReplyText.{reply_text}
use Rattle.dp_line.specs.Served.{executed, memory_after_reply, served}
use Rattle.dp_line.specs.Effects.{Stepped, is_for, is_spread, own_rule, rule_taken, slave_after}
use Rattle.dp_line.specs.Steps.{run, step}
use Rattle.dp_line.specs.Bus.{IsConfigured}
use Rattle.dp_line.proofs.Runs.{Asks, addressed}
use Rattle.dp_line.proofs.BusSteps.{IsConcerned, found_address, found_after, found_is, heard_sender, kept_run}
use Rattle.dp_line.proofs.BusVerdict.{reached_rule}
use Rattle.dp_line.proofs.BusLives.{HaveLived, StaysSound, have_lived, start_lived, world_sound}
use Rattle.dp_line.proofs.BusOutcomes.{IsEnding, replies, keeps_off, is_silent, step_ending}
use Rattle.dp_line.proofs.BusReasons.{TextsAgree, asked_is}
use Rattle.dp_line.proofs.BusRows.{frame_heard}
use Rattle.dp_line.proofs.BusEach.{taken_in}
use Rattle.dp_line.proofs.BusRepeats.{either_one, free_by, slave_served}

-- the act of a request
abbrev act_in : World → ℕ → Parts → SlaveRecord → Act
act_in world master parts slave = service_act slave master (world.count + 1) parts.dsap parts.payload.items

-- what is read of the octets of a telegram
heard_parts : TextsAgree → (world : World) (master : ℕ) (octets : List ℕ) (telegram : Telegram) → Spells octets (frames.Telegram telegram) → (heard world master octets).parts ≡ parts_of telegram
unfolding heard
heard_parts agree world master octets telegram spelt = ap (λ f. option_and_then parts_of (option_and_then telegram_of_frame f)) ((agree octets (frames.Telegram telegram)).0 spelt)

-- ---- by the slave's rule

aside_by : (slave : SlaveRecord) (sender place : ℕ) (parts : Parts) (rule : Rule) (memory : List MasterMemory) → rule ≡ rules.Done
    → ◌≡◌ {A = SlaveRecord} (record (record (executed slave sender place parts rule) { memory = memory }) { memory = slave.memory }) (acted slave (service_act slave sender place parts.dsap parts.payload.items))
unfolding acted
aside_by slave sender place parts rule memory done =
    ap (λ (r : Rule). record (executed slave sender place parts r) { memory = slave.memory }) done

served_aside : (slave : SlaveRecord) (sender place : ℕ) (telegram : Telegram) (parts : Parts) → rule_at sender telegram parts slave ≡ rules.Done
    → record (served slave sender place telegram parts) { memory = slave.memory } ≡ acted slave (service_act slave sender place parts.dsap parts.payload.items)
unfolding served
served_aside slave sender place telegram parts done =
    let rule = rule_at sender telegram parts slave in
    aside_by slave sender place parts rule (memory_after_reply slave sender telegram rule (reply_text slave sender telegram parts rule)) done

-- a slave that is asked takes the request by its own rule
record IsTaken (world : World) (master : ℕ) (octets : List ℕ) (slave : SlaveRecord) (telegram : Telegram) (parts : Parts) : Type 0 where
  concerned : IsConcerned (heard world master octets) telegram parts
  done : rule_at master telegram parts slave ≡ rules.Done

alone_by : (all one : Bool) → all ≡ false → (all || one) ≡ true → one ≡ true
alone_by true one off is = absurd cc
alone_by false one off is = is

not_all : (concerned all : Bool) → (concerned && all) ≡ false → concerned ≡ true → all ≡ false
not_all true all off on = off
not_all false all off on = absurd cc

taken_by : (world : World) (master : ℕ) (octets : List ℕ) (slave : SlaveRecord) (telegram : Telegram) (parts : Parts) (spread : Bool)
    → is_spread (heard world master octets) ≡ spread → cond spread (own_rule (heard world master octets) slave) (verdict_of (heard world master octets)) ≡ rules.Done
    → option_and_then telegram_of_frame (heard world master octets).frame ≡ Some telegram → (heard world master octets).parts ≡ Some parts
    → Asks (heard world master octets) slave telegram → is_for telegram slave ≡ true → IsTaken world master octets slave telegram parts
taken_by world master octets slave telegram parts true spread done spelt read asks asked =
    let hearing = heard world master octets in
    let concerns = (and_parts (concerns_a_slave (verdict_of hearing)) (telegram_has is_to_all hearing) spread).0 in
    let sender = heard_sender world master octets in
    record { concerned = record { concerned = concerns; spelt = spelt; read = read }; done = rw (spelt, read, sender) at done }
taken_by world master octets slave telegram parts false spread done spelt read asks asked =
    let hearing = heard world master octets in
    let concerns : concerns_a_slave (verdict_of hearing) ≡ true = ap concerns_a_slave done in
    let one = rw spelt at (not_all (concerns_a_slave (verdict_of hearing)) (telegram_has is_to_all hearing) spread concerns) in
    let concerned : IsConcerned hearing telegram parts = record { concerned = concerns; spelt = spelt; read = read } in
    let there = asks.one one (eqb-true (address_of_slave slave) (address_of telegram.da) (alone_by (is_to_all telegram) _ one asked)) in
    record {
      concerned = concerned;
      done = ap (λ (n : ℕ). rule_at n telegram parts slave) (sym (heard_sender world master octets)) ∙ sym (reached_rule hearing telegram parts slave concerned there) ∙ done;
    }

pub done_record : TextsAgree → (world : World) (master : ℕ) (octets : ArrayVec ℕ) (telegram : Telegram) (parts : Parts) (slave : SlaveRecord) → Spells octets.items (frames.Telegram telegram)
    → parts_of telegram ≡ Some parts → slave_at world (address_of_slave slave) ≡ Some slave → is_for telegram slave ≡ true → rule_taken (heard world master octets.items) slave ≡ rules.Done
    → record (slave_after world (Request master octets) slave) { memory = slave.memory } ≡ acted slave (act_in world master parts slave)
done_record agree world master octets telegram parts slave spelt read here asked done =
    let hearing = heard world master octets.items in
    let framed = ap (option_and_then telegram_of_frame) (frame_heard agree world master octets.items (frames.Telegram telegram) spelt) in
    let taken = taken_by world master octets.items slave telegram parts (is_spread hearing) refl done framed (heard_parts agree world master octets.items telegram spelt ∙ read)
    (addressed world master octets.items slave telegram here framed) asked in
    ap (λ (s : SlaveRecord). record s { memory = slave.memory }) (slave_served world master octets slave telegram parts taken.concerned asked)
    ∙ served_aside slave master (world.count + 1) telegram parts taken.done

-- ---- by the reply

served_done : (slave : SlaveRecord) (sender place : ℕ) (telegram : Telegram) (parts : Parts) (text : List ℕ) → rule_at sender telegram parts slave ≡ rules.Done
    → reply_text slave sender telegram parts (rule_at sender telegram parts slave) ≡ Some text
    → served slave sender place telegram parts
    ≡ record (acted slave (service_act slave sender place parts.dsap parts.payload.items)) { memory = with_remembered slave.memory sender telegram.fc text }
unfolding served
served_done slave sender place telegram parts text done has =
    ap (λ (r : Option (List ℕ)). record (executed slave sender place parts (rule_at sender telegram parts slave)) { memory = memory_after_reply slave sender telegram (rule_at sender telegram parts slave) r }) has
    ∙ ap (λ (r : Rule). record (executed slave sender place parts r) { memory = memory_after_reply slave sender telegram r (Some text) }) done

texts_same : (s slave : SlaveRecord) (n sender : ℕ) (t telegram : Telegram) (p parts : Parts) (text : List ℕ) → s ≡ slave → n ≡ sender → t ≡ telegram → p ≡ parts
    → reply_text s n t p (rule_at n t p s) ≡ Some text → reply_text slave sender telegram parts (rule_at sender telegram parts slave) ≡ Some text
texts_same s slave n sender t telegram p parts text e1 e2 e3 e4 has = cc

replied_by : TextsAgree → (world : World) (master : ℕ) (octets reply : ArrayVec ℕ) (telegram : Telegram) (parts : Parts) (slave : SlaveRecord) (outcome : Outcome) → Spells octets.items (frames.Telegram telegram)
    → parts_of telegram ≡ Some parts → slave_at world (address_of telegram.da) ≡ Some slave → IsEnding (heard world master octets.items) outcome → outcome ≡ Reply reply rules.Done
    → slave_at (step world (Request master octets)).world (address_of telegram.da)
    ≡ Some (record (acted slave (act_in world master parts slave)) { memory = with_remembered slave.memory master telegram.fc reply.items })
replied_by agree world master octets reply telegram parts slave outcome spelt read here (replies t p s text concerned to_all found srd has is) reported =
    let hearing = heard world master octets.items in
    let framed = ap (option_and_then telegram_of_frame) (frame_heard agree world master octets.items (frames.Telegram telegram) spelt) in
    let own : IsConcerned hearing telegram parts = record { concerned = concerned.concerned; spelt = framed; read = heard_parts agree world master octets.items telegram spelt ∙ read } in
    let same_telegram : t ≡ telegram = same_Some _ _ (sym concerned.spelt ∙ framed) in
    let same_parts : p ≡ parts = same_Some _ _ (sym concerned.read ∙ own.read) in
    let same_slave : s ≡ slave = same_Some _ _ (sym (asked_is world master octets.items t s concerned.spelt to_all found) ∙ ap (λ (x : Telegram). slave_at world (address_of x.da)) same_telegram ∙ here) in
    let ruled : verdict_of hearing ≡ rules.Done = cc in
    let written : record { items = text } ≡ reply = cc in
    let sender = heard_sender world master octets.items in
    let done = ap (λ (n : ℕ). rule_at n telegram parts slave) (sym sender)
    ∙ sym (reached_rule hearing telegram parts slave own (found ∙ ap (λ (x : SlaveRecord). Some x) same_slave)) ∙ ruled in
    let texts = texts_same s slave hearing.sender master t telegram p parts text same_slave sender same_telegram same_parts has in
    let asked = either_one (is_to_all telegram) _ (eq-eqb (address_of_slave slave) (address_of telegram.da) (found_address world.slaves (address_of telegram.da) slave here)) in
    let going = free_by world master octets.items (takes_no_more world) refl concerned.concerned in
    ap (λ (x : Stepped). slave_at x.world (address_of telegram.da)) (taken_in world (Request master octets) going refl)
    ∙ found_after world (Request master octets) (address_of telegram.da) slave here
    ∙ ap (λ (x : SlaveRecord). Some x) (slave_served world master octets slave telegram parts own asked ∙ served_done slave master (world.count + 1) telegram parts text done texts)
    ∙ ap (λ (r : ArrayVec ℕ). Some (record (acted slave (act_in world master parts slave)) { memory = with_remembered slave.memory master telegram.fc r.items })) written
replied_by agree world master octets reply telegram parts slave outcome spelt read here (keeps_off silent is) reported = absurd cc
replied_by agree world master octets reply telegram parts slave outcome spelt read here (is_silent t p concerned sdn no_reply ruled) reported = absurd (no_reply reply rules.Done reported)

pub done_reply : TextsAgree → (world : World) (master : ℕ) (octets reply : ArrayVec ℕ) (telegram : Telegram) (parts : Parts) (slave : SlaveRecord) → Spells octets.items (frames.Telegram telegram)
    → parts_of telegram ≡ Some parts → slave_at world (address_of telegram.da) ≡ Some slave
    → (step world (Request master octets)).answer.outcome ≡ Reply reply rules.Done
    → slave_at (step world (Request master octets)).world (address_of telegram.da)
    ≡ Some (record (acted slave (act_in world master parts slave)) { memory = with_remembered slave.memory master telegram.fc reply.items })
done_reply agree world master octets reply telegram parts slave spelt read here reported =
    replied_by agree world master octets reply telegram parts slave (step world (Request master octets)).answer.outcome spelt read here (step_ending world master octets) reported

-- ---- a good Chk_Cfg

configured_by : (slave after : SlaveRecord) (number : ℕ) (memory : List MasterMemory) → after ≡ record (acted slave (configures number)) { memory = memory } → IsSound after → IsConfigured number after
unfolding acted
configured_by slave after number memory is sound =
    let shape : after.shape ≡ number = ap (λ (s : SlaveRecord). s.shape) is in
    record {
      state = ap (λ (s : SlaveRecord). s.state) is;
      cfg = ap (λ (s : SlaveRecord). s.cfg) is;
      shape = shape;
      inputs = sound.inputs_long ∙ ap (inputs_of after.description) shape;
      outputs = sound.outputs_long ∙ ap (outputs_of after.description) shape;
    }

service_at : (slave : SlaveRecord) (sender place number : ℕ) (point : Option ℕ) (octets : List ℕ) → point ≡ chk_cfg → chosen (configurations slave.description) octets ≡ Some number
    → service_act slave sender place point octets ≡ configures number
service_at slave sender place number point octets at found = ap (λ (p : Option ℕ). service_act slave sender place p octets) at ∙ ap cfg_act found

pub configured : StaysSound → TextsAgree → (line : Description) (events : List Event) (master number : ℕ) (octets reply : ArrayVec ℕ) (telegram : Telegram) (parts : Parts) (slave after : SlaveRecord)
    → Spells octets.items (frames.Telegram telegram) → parts_of telegram ≡ Some parts → parts.dsap ≡ chk_cfg
    → slave_at (run (start_of line) events).world (address_of telegram.da) ≡ Some slave → chosen (configurations slave.description) parts.payload.items ≡ Some number
    → (step (run (start_of line) events).world (Request master octets)).answer.outcome ≡ Reply reply rules.Done
    → slave_at (step (run (start_of line) events).world (Request master octets)).world (address_of telegram.da) ≡ Some after → IsConfigured number after
configured sound agree line events master number octets reply telegram parts slave after spelt read at here found reported there =
    let world = (run (start_of line) events).world in
    let next = (step world (Request master octets)).world in
    let lived = kept_run HaveLived world (Request master octets ∷ []) have_lived (kept_run HaveLived (start_of line) events have_lived (start_lived line)) in
    let is = same_Some _ _ (sym there ∙ done_reply agree world master octets reply telegram parts slave spelt read here reported) in
    configured_by slave after number (with_remembered slave.memory master telegram.fc reply.items)
    (is ∙ ap (λ (act : Act). record (acted slave act) { memory = with_remembered slave.memory master telegram.fc reply.items }) (service_at slave master (world.count + 1) number parts.dsap parts.payload.items at found))
    (found_is IsSound next.slaves (address_of telegram.da) after (world_sound sound next lived) there)
