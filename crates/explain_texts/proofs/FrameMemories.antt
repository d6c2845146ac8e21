-- What a slave remembers for a master after an entry.
use Rattle.std.proofs.Common.{◌≡◌, ℕ, ◌+◌, Bool, true, false, cond, eqb, List, [], ◌∷◌, Option, Some, None, refl, sym, ap, subst, ◌∙◌}
use Rattle.std.specs.Prelude.{◌||◌, ◌&&◌, find, option_map}
use Rattle.std.specs.Option.{option_and_then, option_map_or}
use Rattle.std.proofs.lemmas.Bool.{and_from, and_parts, both_ways, eqb-true, eqb-false, eq-eqb}
use Rattle.arrayvec.specs.ArrayVec.{ArrayVec}
use Rattle.dp_telegram.specs.declared.function_code.Function.{Function}
use Rattle.dp_telegram.specs.declared.function_code.Function.TheVariants.{SdnLow, SdnHigh}
use Rattle.dp_telegram.specs.declared.frame.Telegram.{Telegram}
use Rattle.dp_telegram.specs.declared.access.Parts.{Parts}
use Rattle.dp_telegram.specs.Access.{address_of}
use Rattle.dp_telegram.specs.FunctionCode.{asks_sdn, asks_srd, frame_count_bit, frame_count_is_valid, function_of}
use Rattle.dp_sap.specs.AccessTable.{global_control, same_point}
use Rattle.dp_responder.specs.Memory.{MasterMemory, Remembered, last_after, master_after, remembered_of, with_remembered}
use Rattle.dp_responder.specs.declared.rule.Rule.{Rule}
use Rattle.dp_responder.specs.declared.rule.Rule.TheVariants as rules
use Rattle.dp_slave.specs.SlaveRecord.{SlaveRecord}
use Rattle.dp_slave.specs.Fields.{acted}
use Rattle.dp_line.specs.declared.event.Event.{Event}
use Rattle.dp_line.specs.declared.event.Event.TheVariants.{Request}
use Rattle.dp_line.specs.declared.event.Op.{Op}
use Rattle.dp_line.specs.declared.event.Outcome.{Outcome}
use Rattle.dp_line.specs.World.{World, slave_at}
use Rattle.dp_line.specs.Events.{act_of_op}
use Rattle.dp_line.specs.Hearing.{heard, is_to_all, telegram_spelt}
use Rattle.dp_line.specs.Verdict.{rule_at}
use Rattle.dp_line.specs.ReplyText.{reply_text}
use Rattle.dp_line.specs.Served.{answered, memory_after_reply, served}
use Rattle.dp_line.specs.Effects.{is_for, outcome_heard, outcome_of, slave_after}
use Rattle.explain_events.specs.Notes.{is_judged_anew}
use Rattle.explain_texts.specs.Repeats.{is_replied_anew, is_srd_to}
use Rattle.explain_texts.proofs.Reached.{IsConcerned, IsWay, leaves, reaches, operates, asks_it, found_address, heard_sender, heard_slave, outcome_is, outcome_one, spelt_is, to_all_controls}

-- ---- a frame memory

found_by : (f : MasterMemory → MasterMemory) (first : MasterMemory) (b : Bool) (found later : Option MasterMemory) → later ≡ option_map f found
    → cond b (Some (f first)) later ≡ option_map f (cond b (Some first) found)
found_by f first true found later same = refl
found_by f first false found later same = same

master_kept : (sender fc : ℕ) (reply : List ℕ) (m : MasterMemory) (b : Bool) → (cond b (record m { last = last_after fc reply m.last }) m).master ≡ m.master
master_kept sender fc reply m true = refl
master_kept sender fc reply m false = refl

found_memory : (memory : List MasterMemory) (sender fc : ℕ) (reply : List ℕ) (master : ℕ)
    → find (λ m. eqb m.master master) (with_remembered memory sender fc reply) ≡ option_map (master_after sender fc reply) (find (λ m. eqb m.master master) memory)
found_memory [] sender fc reply master = refl
found_memory (first ∷ memory) sender fc reply master =
    ap (λ (n : ℕ). cond (eqb n master) (Some (master_after sender fc reply first)) (find (λ m. eqb m.master master) (with_remembered memory sender fc reply)))
    (master_kept sender fc reply first (eqb first.master sender))
    ∙ found_by (master_after sender fc reply) first (eqb first.master master) (find (λ m. eqb m.master master) memory) (find (λ m. eqb m.master master) (with_remembered memory sender fc reply))
    (found_memory memory sender fc reply master)

first_is : (test : MasterMemory → Bool) (first m : MasterMemory) (found : Option MasterMemory) (b : Bool) → test first ≡ b → (found ≡ Some m → test m ≡ true) → cond b (Some first) found ≡ Some m → test m ≡ true
first_is test first m found true e others here = let same : m ≡ first = cc in ap test same ∙ e
first_is test first m found false e others here = others here

memory_is : (test : MasterMemory → Bool) (memory : List MasterMemory) (m : MasterMemory) → find test memory ≡ Some m → test m ≡ true
memory_is test [] m here = absurd cc
memory_is test (first ∷ memory) m here = first_is test first m (find test memory) (test first) refl (memory_is test memory m) here

-- the memory for another master is unchanged, and so is any memory if the request is no SRD
last_by : (sender fc : ℕ) (reply : List ℕ) (m : MasterMemory) (b : Bool) → (b ≡ true → last_after fc reply m.last ≡ m.last) → (cond b (record m { last = last_after fc reply m.last }) m).last ≡ m.last
last_by sender fc reply m true same = same refl
last_by sender fc reply m false same = refl

stays_where : (sender fc : ℕ) (reply : List ℕ) (found : Option MasterMemory)
    → ((m : MasterMemory) → found ≡ Some m → eqb m.master sender ≡ true → last_after fc reply m.last ≡ m.last)
    → option_and_then (λ m. m.last) (option_map (master_after sender fc reply) found) ≡ option_and_then (λ m. m.last) found
stays_where sender fc reply None same = refl
stays_where sender fc reply (Some m) same = last_by sender fc reply m (eqb m.master sender) (same m refl)

remembered_stays : (memory : List MasterMemory) (sender fc : ℕ) (reply : List ℕ) (master : ℕ)
    → ((m : MasterMemory) → eqb m.master master ≡ true → eqb m.master sender ≡ true → last_after fc reply m.last ≡ m.last)
    → remembered_of (with_remembered memory sender fc reply) master ≡ remembered_of memory master
remembered_stays memory sender fc reply master same =
    ap (option_and_then (λ m. m.last)) (found_memory memory sender fc reply master)
    ∙ stays_where sender fc reply (find (λ m. eqb m.master master) memory)
    (λ m found. same m (memory_is (λ o. eqb o.master master) memory m found))

pub other_master : (memory : List MasterMemory) (sender fc : ℕ) (reply : List ℕ) (master : ℕ) → eqb sender master ≡ false
    → remembered_of (with_remembered memory sender fc reply) master ≡ remembered_of memory master
other_master memory sender fc reply master apart =
    remembered_stays memory sender fc reply master
    (λ m mine its. absurd (eqb-false sender master apart (sym (eqb-true m.master sender its) ∙ eqb-true m.master master mine)))

pub no_srd_stays : (memory : List MasterMemory) (sender fc : ℕ) (reply : List ℕ) (master : ℕ) → asks_srd (function_of fc) ≡ false
    → remembered_of (with_remembered memory sender fc reply) master ≡ remembered_of memory master
no_srd_stays memory sender fc reply master none = remembered_stays memory sender fc reply master (λ m mine its. rw none refl)

-- the memory for the sender of an SRD is that SRD and its reply, if anything is remembered
pub record IsNew (fc : ℕ) (reply : List ℕ) (last : Remembered) : Type 0 where
  pub bit : frame_count_bit fc ≡ last.fcb
  pub text : reply ≡ last.reply

new_by : (fc : ℕ) (reply : List ℕ) (old : Option Remembered) (last : Remembered) (b : Bool) → cond b (Some (record { fcb = frame_count_bit fc; reply = reply })) None ≡ Some last → IsNew fc reply last
new_by fc reply old last true is = let same : record { fcb = frame_count_bit fc; reply = reply } ≡ last = cc in
    record { bit = ap (λ (r : Remembered). r.fcb) same; text = ap (λ (r : Remembered). r.reply) same }
new_by fc reply old last false is = absurd cc

new_after : (fc : ℕ) (reply : List ℕ) (old : Option Remembered) (last : Remembered) → asks_srd (function_of fc) ≡ true → last_after fc reply old ≡ Some last → IsNew fc reply last
new_after fc reply old last srd is = new_by fc reply old last (frame_count_is_valid fc || frame_count_bit fc) (rw srd at is)

new_where : (sender fc : ℕ) (reply : List ℕ) (found : Option MasterMemory) (last : Remembered) → ((m : MasterMemory) → found ≡ Some m → eqb m.master sender ≡ true) → asks_srd (function_of fc) ≡ true
    → option_and_then (λ m. m.last) (option_map (master_after sender fc reply) found) ≡ Some last → IsNew fc reply last
new_where sender fc reply None last own srd is = absurd cc
new_where sender fc reply (Some m) last own srd is =
    let mine = own m refl in
    new_after fc reply m.last last srd (ap (λ (b : Bool). (cond b (record m { last = last_after fc reply m.last }) m).last) (sym mine) ∙ is)

pub new_remembered : (memory : List MasterMemory) (sender fc : ℕ) (reply : List ℕ) (last : Remembered) → asks_srd (function_of fc) ≡ true
    → remembered_of (with_remembered memory sender fc reply) sender ≡ Some last → IsNew fc reply last
new_remembered memory sender fc reply last srd is =
    new_where sender fc reply (find (λ m. eqb m.master sender) memory) last (memory_is (λ o. eqb o.master sender) memory) srd
    (ap (option_and_then (λ m. m.last)) (sym (found_memory memory sender fc reply sender)) ∙ is)

pub memory_by : (slave : SlaveRecord) (sender : ℕ) (telegram : Telegram) (master : ℕ) (rule : Rule) (reply : Option (List ℕ))
    → ((text : List ℕ) → is_judged_anew rule ≡ true → reply ≡ Some text → remembered_of (with_remembered slave.memory sender telegram.fc text) master ≡ remembered_of slave.memory master)
    → remembered_of (memory_after_reply slave sender telegram rule reply) master ≡ remembered_of slave.memory master
memory_by slave sender telegram master rules.Repeat reply same = refl
memory_by slave sender telegram master other None same = refl
memory_by slave sender telegram master other (Some text) same = same text refl refl

pub anew_memory : (slave : SlaveRecord) (sender : ℕ) (telegram : Telegram) (rule : Rule) (text : List ℕ) → is_judged_anew rule ≡ true
    → memory_after_reply slave sender telegram rule (Some text) ≡ with_remembered slave.memory sender telegram.fc text
anew_memory slave sender telegram rules.Repeat text anew = absurd cc
anew_memory slave sender telegram other text anew = refl

pub served_memory : (slave : SlaveRecord) (sender place : ℕ) (telegram : Telegram) (parts : Parts)
    → (served slave sender place telegram parts).memory ≡ memory_after_reply slave sender telegram (rule_at sender telegram parts slave) (reply_text slave sender telegram parts (rule_at sender telegram parts slave))
unfolding served
served_memory slave sender place telegram parts = refl

-- ---- the memory after an entry

pub slave_served : (world : World) (master : ℕ) (octets : ArrayVec ℕ) (slave : SlaveRecord) (telegram : Telegram) (parts : Parts) → IsConcerned (heard world master octets.items) telegram parts
    → is_for telegram slave ≡ true → slave_after world (Request master octets) slave ≡ served slave master (world.count + 1) telegram parts
unfolding slave_after
slave_served world master octets slave telegram parts concerned asked =
    let here = concerned.concerned in
    let spelt = concerned.spelt in
    let read = concerned.read in
    let sender = heard_sender world master octets.items in
    rw (here, spelt, read, asked, sender) refl

pub either_one : (a b : Bool) → b ≡ true → (a || b) ≡ true
either_one true b is = refl
either_one false b is = is

no_srd : (function : Function) → asks_sdn function ≡ true → asks_srd function ≡ true → ⊥
no_srd SdnLow sdn srd = absurd cc
no_srd SdnHigh sdn srd = absurd cc
no_srd other sdn srd = absurd cc

-- an SRD that reaches the slave and is judged and replied to, other than by a repeat, gets such an outcome
reported_again : (world : World) (event : Event) (outcome : Outcome) (slave : SlaveRecord) (address master : ℕ) (octets : ArrayVec ℕ) (telegram : Telegram) (parts : Parts) (text : List ℕ) (all : Bool)
    → is_to_all telegram ≡ all → event ≡ Request master octets → outcome ≡ outcome_of world event → slave_at world address ≡ Some slave
    → IsConcerned (heard world master octets.items) telegram parts → is_for telegram slave ≡ true → asks_srd (function_of telegram.fc) ≡ true
    → is_judged_anew (rule_at master telegram parts slave) ≡ true → reply_text slave master telegram parts (rule_at master telegram parts slave) ≡ Some text
    → is_replied_anew address master event outcome ≡ true
reported_again world event outcome slave address master octets telegram parts text true to_all request reported here concerned asked srd anew replied =
    let control = and_parts (asks_sdn (function_of telegram.fc)) (same_point parts.dsap global_control)
    (to_all_controls (heard world master octets.items) telegram parts concerned to_all) in
    absurd (no_srd (function_of telegram.fc) control.0 srd)
reported_again world event outcome slave address master octets telegram parts text false to_all request reported here concerned asked srd anew replied =
    let hearing = heard world master octets.items in
    let rule = rule_at master telegram parts slave in
    let spelt = sym (spelt_is world master octets.items) ∙ concerned.spelt in
    let at = sym (found_address world.slaves address slave here) ∙ asks_it telegram slave to_all asked in
    let found = heard_slave world master octets.items telegram spelt to_all ∙ ap (slave_at world) (sym at) ∙ here in
    let answer = subst (λ (n : ℕ). outcome_heard hearing ≡ answered (rule_at n telegram parts slave) (reply_text slave n telegram parts (rule_at n telegram parts slave)))
    (heard_sender world master octets.items) (outcome_one hearing telegram parts slave concerned to_all found) in
    let outcome_reported = reported ∙ ap (outcome_of world) request ∙ outcome_is world master octets ∙ answer ∙ ap (answered rule) replied in
    ap (λ (e : Event). is_replied_anew address master e outcome) request
    ∙ ap (is_replied_anew address master (Request master octets)) outcome_reported
    ∙ and_from (eqb master master && is_judged_anew rule) (option_map_or (is_srd_to address) (telegram_spelt octets.items) false)
    (and_from (eqb master master) (is_judged_anew rule) (eq-eqb master master refl) anew)
    (ap (λ (t : Option Telegram). option_map_or (is_srd_to address) t false) spelt
    ∙ and_from (asks_srd (function_of telegram.fc)) (eqb (address_of telegram.da) address) srd (eq-eqb (address_of telegram.da) address (sym at)))

reached_by : (world : World) (event : Event) (outcome : Outcome) (slave : SlaveRecord) (address master sender : ℕ) (octets : ArrayVec ℕ) (telegram : Telegram) (parts : Parts) (text : List ℕ) (srd same : Bool)
    → asks_srd (function_of telegram.fc) ≡ srd → eqb sender master ≡ same → event ≡ Request sender octets → outcome ≡ outcome_of world event → slave_at world address ≡ Some slave
    → IsConcerned (heard world sender octets.items) telegram parts → is_for telegram slave ≡ true → is_replied_anew address master event outcome ≡ false
    → is_judged_anew (rule_at sender telegram parts slave) ≡ true → reply_text slave sender telegram parts (rule_at sender telegram parts slave) ≡ Some text
    → remembered_of (with_remembered slave.memory sender telegram.fc text) master ≡ remembered_of slave.memory master
reached_by world event outcome slave address master sender octets telegram parts text false same none e request reported here concerned asked out anew replied =
    no_srd_stays slave.memory sender telegram.fc text master none
reached_by world event outcome slave address master sender octets telegram parts text true false srd apart request reported here concerned asked out anew replied =
    other_master slave.memory sender telegram.fc text master apart
reached_by world event outcome slave address master sender octets telegram parts text true true srd e request reported here concerned asked out anew replied =
    let mine = eqb-true sender master e in
    let inside = reported_again world event outcome slave address sender octets telegram parts text (is_to_all telegram) refl request reported here concerned asked srd anew replied in
    absurd (both_ways (is_replied_anew address master event outcome) out (subst (λ (n : ℕ). is_replied_anew address n event outcome ≡ true) mine inside))

op_memory : (slave : SlaveRecord) (op : Op) → (acted slave (act_of_op op)).memory ≡ slave.memory
unfolding acted
op_memory slave op = refl

pub way_memory : (world : World) (event : Event) (outcome : Outcome) (address master : ℕ) (slave after : SlaveRecord) → slave_at world address ≡ Some slave → outcome ≡ outcome_of world event
    → is_replied_anew address master event outcome ≡ false → IsWay world event slave after → remembered_of after.memory master ≡ remembered_of slave.memory master
way_memory world event outcome address master slave after here reported out (leaves is) = ap (λ (s : SlaveRecord). remembered_of s.memory master) is
way_memory world event outcome address master slave after here reported out (reaches sender octets telegram parts request concerned asked is) =
    let rule = rule_at sender telegram parts slave in
    ap (λ (s : SlaveRecord). remembered_of s.memory master) is
    ∙ ap (λ (memory : List MasterMemory). remembered_of memory master) (served_memory slave sender (world.count + 1) telegram parts)
    ∙ memory_by slave sender telegram master rule (reply_text slave sender telegram parts rule)
    (λ text anew replied. reached_by world event outcome slave address master sender octets telegram parts text (asks_srd (function_of telegram.fc)) (eqb sender master) refl refl
    request reported here concerned asked out anew replied)
way_memory world event outcome address master slave after here reported out (operates op operator is) =
    ap (λ (s : SlaveRecord). remembered_of s.memory master) is ∙ ap (λ (memory : List MasterMemory). remembered_of memory master) (op_memory slave op)
