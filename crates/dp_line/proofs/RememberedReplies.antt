-- A slave remembers of each master only what it can have replied to this master.
use Rattle.std.proofs.Common.{◌≡◌, ℕ, zero, suc, ◌<◌, is_some, ◌≤◌, Bool, true, false, not, cond, eqb, leb, List, [], ◌∷◌, ◌++◌, length, Option, Some, None, inl, inr, refl, sym, ap, subst, ◌∙◌, arith}
use Rattle.std.specs.Prelude.{◌&&◌, ◌||◌, nat_eq, option_to_list, slice_get, unwrap_or}
use Rattle.std.specs.List.{list_all, list_any}
use Rattle.std.specs.Option.{option_and_then, option_eq, option_map_or}
use Rattle.std.proofs.lemmas.Bool.{and_from, and_parts, both_ways, cond-false, eq-eqb, eqb-true, le-leb, ne_eqb}
use Rattle.std.proofs.lemmas.List.{append_assoc}
use Rattle.std.proofs.lemmas.Option.{same_Some}
use Rattle.dp_telegram.specs.declared.frame.Telegram.{Telegram}
use Rattle.dp_telegram.specs.declared.frame.Frame.TheVariants as frames
use Rattle.dp_telegram.specs.declared.access.Parts.{Parts}
use Rattle.dp_telegram.specs.declared.function_code.Function.{Function}
use Rattle.dp_telegram.specs.declared.function_code.Function.TheVariants.{FdlStatus}
use Rattle.dp_telegram.specs.Access.{address_of, announces, extension_of, is_plain, parts_of}
use Rattle.dp_telegram.specs.FrameText.{delimiter, frame_of, sc_text, sd3}
use Rattle.dp_telegram.specs.FunctionCode.{asks_fdl_status, asks_sdn, asks_srd, data_high, data_low, frame_count_bit, frame_count_is_valid, function_of, ok}
use Rattle.dp_diag.specs.Diagnosis.{is_due_high}
use Rattle.dp_diag.specs.DiagnosisText.{diagnosis_text}
use Rattle.dp_responder.specs.Judgement.{refusal_function}
use Rattle.dp_responder.specs.Memory.{MasterMemory, Remembered, last_after, master_after, with_remembered}
use Rattle.dp_responder.specs.declared.rule.Rule.{Rule}
use Rattle.dp_responder.specs.declared.rule.Rule.TheVariants as rules
use Rattle.dp_cfg.specs.Choosing.{chosen}
use Rattle.dp_cfg.specs.Reading.{input_octets, output_octets}
use Rattle.dp_slave.specs.declared.description.SlaveSpec.{SlaveSpec}
use Rattle.dp_slave.specs.Reachable.{has_choosable_shape, has_configuration, has_inputs, has_outputs}
use Rattle.dp_slave.specs.Soundness.{IsSound}
use Rattle.dp_slave.specs.SlaveRecord.{SlaveRecord, configuration, configurations, diag_facts, input_length, output_length, shown_inputs}
use Rattle.dp_slave.specs.Services.{ServiceAnswer, low, service_answer}
use Rattle.dp_line.specs.Verdict.{concerns_a_slave, rule_at}
use Rattle.dp_line.specs.ReplyText.{data_reply, reply_text, short_reply}
use Rattle.dp_line.specs.Served.{memory_after_reply, served}
use Rattle.dp_line.specs.RememberedReplies.{has_data_from, has_data_function, has_data_parts, has_no_data, is_remembered, is_reply_frame, is_reply_of}
use Rattle.dp_line.proofs.BusAnswers.{IsServed, alone, with_all}
use Rattle.dp_line.proofs.BusLives.{chosen_below}
use Rattle.dp_line.proofs.BusReasons.{TextsAgree}
use Rattle.dp_line.proofs.BusReplies.{IsAsking, IsShort, answer_short, has_some, room}
use Rattle.dp_line.proofs.BusVerdict.{no_srd, status_row}

-- ---- replies without data

short_passes : TextsAgree → (sender : ℕ) (d : SlaveSpec) (function : ℕ) (telegram : Telegram) → IsAsking sender d.address telegram → has_no_data d function ≡ true
    → is_reply_of sender d (short_reply telegram function) ≡ true
short_passes agree sender d function telegram asking bare =
    let framed = (agree (short_reply telegram function) (frames.Telegram (record { da = address_of telegram.sa; sa = address_of telegram.da; fc = function; du = record { items = [] } }))).0 (inl (refl, refl)) in
    and_from (not (eqb (delimiter (short_reply telegram function)) sd3)) (is_reply_frame sender d (frame_of (short_reply telegram function))) refl
    (ap (is_reply_frame sender d) framed
    ∙ and_from (eqb (address_of telegram.sa) sender && eqb (address_of telegram.da) d.address) (has_no_data d function)
    (and_from (eqb (address_of telegram.sa) sender) (eqb (address_of telegram.da) d.address) (eq-eqb (address_of telegram.sa) sender asking.from) (eq-eqb (address_of telegram.da) d.address asking.to)) bare)

ack_passes : TextsAgree → (sender : ℕ) (d : SlaveSpec) → is_reply_of sender d sc_text ≡ true
ack_passes agree sender d =
    and_from (not (eqb (delimiter sc_text) sd3)) (is_reply_frame sender d (frame_of sc_text)) refl (ap (is_reply_frame sender d) ((agree sc_text frames.Ack).0 refl))

refusal_bare : (d : SlaveSpec) (rule : Rule) → has_no_data d (refusal_function rule) ≡ true
refusal_bare d rules.Busy = refl
refusal_bare d rules.Length = refl
refusal_bare d other = refl

-- ---- the points of a reply are those of the request, exchanged

extended_by : (plain : Bool) (octet : ℕ) (octets : List ℕ) (point : Option ℕ) (rest ys : List ℕ) → is_plain octet ≡ plain → cond {A = Option (Option ℕ × List ℕ)} plain (Some (Some octet, octets)) None ≡ Some (point, rest)
    → extension_of true (option_to_list point ++ ys) ≡ Some (point, ys)
extended_by true octet octets point rest ys plain is =
    let same : Some octet ≡ point = ap (λ (p : Option ℕ × List ℕ). p.0) (same_Some _ _ is) in
    subst (λ (p : Option ℕ). extension_of true (option_to_list p ++ ys) ≡ Some (p, ys)) same (ap (λ (b : Bool). cond {A = Option (Option ℕ × List ℕ)} b (Some (Some octet, ys)) None) plain)
extended_by false octet octets point rest ys plain is = absurd cc

extended : (announced : Bool) (octets : List ℕ) (point : Option ℕ) (rest ys : List ℕ) → extension_of announced octets ≡ Some (point, rest)
    → extension_of announced (option_to_list point ++ ys) ≡ Some (point, ys)
extended false octets point rest ys is =
    let same : None ≡ point = ap (λ (p : Option ℕ × List ℕ). p.0) (same_Some _ _ is) in
    subst (λ (p : Option ℕ). extension_of false (option_to_list p ++ ys) ≡ Some (p, ys)) same refl
extended true [] point rest ys is = absurd cc
extended true (octet ∷ octets) point rest ys is = extended_by (is_plain octet) octet octets point rest ys refl is

-- how the points of a telegram are read
pub record HasExtensions (telegram : Telegram) (parts : Parts) : Type 0 where
  pub rest : List ℕ
  pub destination : extension_of (announces telegram.da) telegram.du.items ≡ Some (parts.dsap, rest)
  pub source : extension_of (announces telegram.sa) rest ≡ Some (parts.ssap, parts.payload.items)

source_by : (telegram : Telegram) (parts : Parts) (point : Option ℕ) (rest : List ℕ) (found : Option (Option ℕ × List ℕ)) → extension_of (announces telegram.da) telegram.du.items ≡ Some (point, rest)
    → extension_of (announces telegram.sa) rest ≡ found
    → option_and_then (λ (source : Option ℕ × List ℕ). Some (record { dsap = point; ssap = source.0; payload = record { items = source.1 } })) found ≡ Some parts → HasExtensions telegram parts
source_by telegram parts point rest None destination source is = absurd cc
source_by telegram parts point rest (Some (other, payload)) destination source is =
    subst (HasExtensions telegram) (same_Some _ _ is) (record { rest = rest; destination = destination; source = source })

destination_by : (telegram : Telegram) (parts : Parts) (found : Option (Option ℕ × List ℕ)) → extension_of (announces telegram.da) telegram.du.items ≡ found
    → option_and_then (λ (destination : Option ℕ × List ℕ). option_and_then (λ (source : Option ℕ × List ℕ). Some (record { dsap = destination.0; ssap = source.0; payload = record { items = source.1 } }))
    (extension_of (announces telegram.sa) destination.1)) found ≡ Some parts → HasExtensions telegram parts
destination_by telegram parts None destination is = absurd cc
destination_by telegram parts (Some (point, rest)) destination is = source_by telegram parts point rest (extension_of (announces telegram.sa) rest) destination refl is

pub extensions_of : (telegram : Telegram) (parts : Parts) → parts_of telegram ≡ Some parts → HasExtensions telegram parts
extensions_of telegram parts is = destination_by telegram parts (extension_of (announces telegram.da) telegram.du.items) refl is

-- the telegram of a reply with data
abbrev reply_with : Telegram → Parts → ℕ → List ℕ → Telegram
reply_with telegram parts function octets = record {
  da = telegram.sa;
  sa = telegram.da;
  fc = function;
  du = record { items = option_to_list parts.ssap ++ option_to_list parts.dsap ++ octets };
}

abbrev parts_from : Option ℕ → Option ℕ × List ℕ → Option Parts
parts_from point source = Some (record { dsap = point; ssap = source.0; payload = record { items = source.1 } })

reply_parts : (telegram : Telegram) (parts : Parts) (function : ℕ) (octets : List ℕ) → HasExtensions telegram parts
    → parts_of (reply_with telegram parts function octets) ≡ Some (record { dsap = parts.ssap; ssap = parts.dsap; payload = record { items = octets } })
reply_parts telegram parts function octets has =
    let first = extended (announces telegram.sa) has.rest parts.ssap parts.payload.items (option_to_list parts.dsap ++ octets) has.source in
    let second = extended (announces telegram.da) telegram.du.items parts.dsap has.rest octets has.destination in
    ap (λ (unit : List ℕ). option_and_then (λ (destination : Option ℕ × List ℕ). option_and_then (parts_from destination.0) (extension_of (announces telegram.da) destination.1))
    (extension_of (announces telegram.sa) unit)) (append_assoc (option_to_list parts.ssap) (option_to_list parts.dsap) octets)
    ∙ ap (option_and_then (λ (destination : Option ℕ × List ℕ). option_and_then (parts_from destination.0) (extension_of (announces telegram.da) destination.1))) first
    ∙ ap (option_and_then (parts_from parts.ssap)) second

-- ---- replies with data

data_passes : TextsAgree → (sender : ℕ) (d : SlaveSpec) (function : ℕ) (telegram : Telegram) (parts : Parts) (octets : List ℕ) → IsAsking sender d.address telegram → HasExtensions telegram parts
    → eqb (length octets) 0 ≡ false → length octets ≤ 244 → has_data_function function parts.dsap ≡ true → has_data_from d parts.dsap octets ≡ true
    → is_reply_of sender d (data_reply telegram parts function octets) ≡ true
data_passes agree sender d function telegram parts octets asking has some few from given =
    let reply = reply_with telegram parts function octets in
    let least = has_some (length octets) some in
    let within = room parts.ssap parts.dsap octets least few in
    let most = within.0 in
    let filled : eqb (length (option_to_list parts.ssap ++ option_to_list parts.dsap ++ octets)) 0 ≡ false =
    ne_eqb (length (option_to_list parts.ssap ++ option_to_list parts.dsap ++ octets)) 0 (λ e. absurd (omega arith)) in
    let text = cond-false _ _ _ filled in
    let framed = (agree (data_reply telegram parts function octets) (frames.Telegram reply)).0 (inr (inl (text, within.0, within.1))) in
    and_from (not (eqb (delimiter (data_reply telegram parts function octets)) sd3)) (is_reply_frame sender d (frame_of (data_reply telegram parts function octets)))
    (ap (λ (o : List ℕ). not (eqb (delimiter o) sd3)) text)
    (ap (is_reply_frame sender d) framed
    ∙ cond-false _ _ _ filled
    ∙ and_from (eqb (address_of telegram.sa) sender && eqb (address_of telegram.da) d.address) (has_data_parts d function (parts_of reply))
    (and_from (eqb (address_of telegram.sa) sender) (eqb (address_of telegram.da) d.address) (eq-eqb (address_of telegram.sa) sender asking.from) (eq-eqb (address_of telegram.da) d.address asking.to))
    (ap (has_data_parts d function) (reply_parts telegram parts function octets has)
    ∙ and_from (has_data_function function parts.dsap && leb 1 (length octets) && leb (length octets) 244) (has_data_from d parts.dsap octets)
    (and_from (has_data_function function parts.dsap && leb 1 (length octets)) (leb (length octets) 244)
    (and_from (has_data_function function parts.dsap) (leb 1 (length octets)) from (le-leb 1 (length octets) least)) (le-leb (length octets) 244 few))
    given))

-- the data of a slave are those of one of its configurations
pub record IsGiving (slave : SlaveRecord) : Type 0 where
  pub inputs : has_inputs slave.description (length (shown_inputs slave)) ≡ true
  pub outputs : has_outputs slave.description (length slave.outputs) ≡ true
  pub cfg : has_configuration slave.description (configuration slave.description slave.shape) ≡ true

-- what a service answers comes from its point
record ComesFrom (d : SlaveSpec) (point : Option ℕ) (answer : ServiceAnswer) : Type 0 where
  pub from : has_data_function (cond answer.high data_high data_low) point ≡ true
  pub given : has_data_from d point answer.octets ≡ true

either_priority : (high : Bool) → has_data_function (cond high data_high data_low) None ≡ true
either_priority true = refl
either_priority false = refl

abbrev IsFrom : SlaveRecord → ℕ → Type 0
IsFrom slave number = eqb (length (service_answer slave (Some number)).octets) 0 ≡ false → ComesFrom slave.description (Some number) (service_answer slave (Some number))

no_octets : (b c d e : Bool) (first second third fourth : ServiceAnswer) → b ≡ false → c ≡ false → d ≡ false → e ≡ false
    → eqb (length (cond b first (cond c second (cond d third (cond e fourth (low []))))).octets) 0 ≡ true
no_octets b c d e first second third fourth one two three four = rw (one, two, three, four) refl

number_from : (slave : SlaveRecord) (number : ℕ) (b c d e : Bool) → IsGiving slave → eqb number 56 ≡ b → eqb number 57 ≡ c → eqb number 59 ≡ d → eqb number 60 ≡ e → IsFrom slave number
number_from slave number true c d e gives one two three four =
    subst (IsFrom slave) (sym (eqb-true number 56 one)) (λ some. record { from = refl; given = gives.inputs })
number_from slave number false true d e gives one two three four =
    subst (IsFrom slave) (sym (eqb-true number 57 two)) (λ some. record { from = refl; given = gives.outputs })
number_from slave number false false true e gives one two three four =
    subst (IsFrom slave) (sym (eqb-true number 59 three)) (λ some. record { from = refl; given = gives.cfg })
number_from slave number false false false true gives one two three four =
    subst (IsFrom slave) (sym (eqb-true number 60 four)) (λ some. record { from = refl; given = le-leb 6 (length (diagnosis_text (diag_facts slave))) (omega arith) })
number_from slave number false false false false gives one two three four =
    λ some. absurd (both_ways _ some (no_octets (eqb number 56) (eqb number 57) (eqb number 59) (eqb number 60) _ _ _ _ one two three four))

answer_from : (slave : SlaveRecord) (point : Option ℕ) → IsGiving slave → eqb (length (service_answer slave point).octets) 0 ≡ false → ComesFrom slave.description point (service_answer slave point)
answer_from slave None gives some = record { from = either_priority (is_due_high slave.diag); given = gives.inputs }
answer_from slave (Some number) gives some = number_from slave number (eqb number 56) (eqb number 57) (eqb number 59) (eqb number 60) gives refl refl refl refl some

-- without data only Data_Exchange answers with high priority, if there are no inputs
low_only : (b c d e : Bool) (first second third fourth : List ℕ) → (cond b (low first) (cond c (low second) (cond d (low third) (cond e (low fourth) (low []))))).high ≡ false
low_only true c d e first second third fourth = refl
low_only false true d e first second third fourth = refl
low_only false false true e first second third fourth = refl
low_only false false false true first second third fourth = refl
low_only false false false false first second third fourth = refl

answer_bare : (slave : SlaveRecord) (point : Option ℕ) → IsGiving slave → (service_answer slave point).high ≡ true → eqb (length (service_answer slave point).octets) 0 ≡ true → has_no_data slave.description data_high ≡ true
answer_bare slave None gives high none =
    subst (λ (n : ℕ). has_inputs slave.description n ≡ true) (eqb-true (length (shown_inputs slave)) 0 none) gives.inputs
answer_bare slave (Some number) gives high none =
    absurd (both_ways (service_answer slave (Some number)).high (low_only (eqb number 56) (eqb number 57) (eqb number 59) (eqb number 60) _ _ _ _) high)

positive_by : TextsAgree → (sender : ℕ) (d : SlaveSpec) (telegram : Telegram) (parts : Parts) (octets : List ℕ) (none high : Bool) → IsAsking sender d.address telegram → HasExtensions telegram parts
    → eqb (length octets) 0 ≡ none → length octets ≤ 244 → (none ≡ false → ComesFrom d parts.dsap (record { high = high; octets = octets }))
    → (high ≡ true → none ≡ true → has_no_data d data_high ≡ true)
    → is_reply_of sender d (cond none (cond high (short_reply telegram data_high) sc_text) (data_reply telegram parts (cond high data_high data_low) octets)) ≡ true
positive_by agree sender d telegram parts octets true true asking has e few comes bare = short_passes agree sender d data_high telegram asking (bare refl refl)
positive_by agree sender d telegram parts octets true false asking has e few comes bare = ack_passes agree sender d
positive_by agree sender d telegram parts octets false high asking has e few comes bare =
    let from = comes refl in
    data_passes agree sender d (cond high data_high data_low) telegram parts octets asking has e few from.from from.given

-- ---- what is remembered after a reply

-- the slave can remember all of it
abbrev pub AreRemembered : SlaveSpec → List MasterMemory → Type 0
AreRemembered d memory = list_all (is_remembered d) memory ≡ true

last_by : (master : ℕ) (d : SlaveSpec) (srd valid fcb : Bool) (reply : List ℕ) (last : Option Remembered) → (srd ≡ true → is_reply_of master d reply ≡ true)
    → option_map_or (λ (r : Remembered). is_reply_of master d r.reply) last true ≡ true
    → option_map_or (λ (r : Remembered). is_reply_of master d r.reply) (cond (not srd) last (cond valid (Some (record { fcb = fcb; reply = reply })) None)) true ≡ true
last_by master d false valid fcb reply last replies was = was
last_by master d true true fcb reply last replies was = replies refl
last_by master d true false fcb reply last replies was = refl

one_by : (d : SlaveSpec) (sender fc : ℕ) (reply : List ℕ) (m : MasterMemory) (b : Bool) → eqb m.master sender ≡ b → (asks_srd (function_of fc) ≡ true → is_reply_of sender d reply ≡ true)
    → is_remembered d m ≡ true → is_remembered d (cond b (record m { last = last_after fc reply m.last }) m) ≡ true
one_by d sender fc reply m true same replies was =
    last_by m.master d (asks_srd (function_of fc)) (frame_count_is_valid fc || frame_count_bit fc) (frame_count_bit fc) reply m.last
    (λ srd. subst (λ (n : ℕ). is_reply_of n d reply ≡ true) (sym (eqb-true m.master sender same)) (replies srd)) was
one_by d sender fc reply m false other replies was = was

remembered_with : (d : SlaveSpec) (sender fc : ℕ) (reply : List ℕ) (memory : List MasterMemory) → (asks_srd (function_of fc) ≡ true → is_reply_of sender d reply ≡ true)
    → AreRemembered d memory → AreRemembered d (with_remembered memory sender fc reply)
remembered_with d sender fc reply [] replies was = refl
remembered_with d sender fc reply (m ∷ memory) replies was =
    let parts = and_parts (is_remembered d m) (list_all (is_remembered d) memory) was in
    and_from (is_remembered d (master_after sender fc reply m)) (list_all (is_remembered d) (with_remembered memory sender fc reply))
    (one_by d sender fc reply m (eqb m.master sender) refl replies parts.0) (remembered_with d sender fc reply memory replies parts.1)

memory_by : (slave : SlaveRecord) (d : SlaveSpec) (sender : ℕ) (telegram : Telegram) (rule : Rule) (reply : Option (List ℕ))
    → (asks_srd (function_of telegram.fc) ≡ true → (text : List ℕ) → reply ≡ Some text → is_reply_of sender d text ≡ true)
    → AreRemembered d slave.memory → AreRemembered d (memory_after_reply slave sender telegram rule reply)
memory_by slave d sender telegram rules.Repeat reply replies was = was
memory_by slave d sender telegram rule None replies was = was
memory_by slave d sender telegram rule (Some reply) replies was =
    remembered_with d sender telegram.fc reply slave.memory (λ srd. replies srd reply refl) was

-- ---- the reply by each rule

no_status : (function : Function) → asks_fdl_status function ≡ true → asks_srd function ≡ true → ⊥
no_status FdlStatus status srd = absurd cc
no_status other status srd = absurd cc

text_of_srd : (sender : ℕ) (d : SlaveSpec) (sdn : Bool) (text reply : List ℕ) → is_reply_of sender d text ≡ true → cond sdn None (Some text) ≡ Some reply → is_reply_of sender d reply ≡ true
text_of_srd sender d true text reply passes is = absurd cc
text_of_srd sender d false text reply passes is = subst (λ (o : List ℕ). is_reply_of sender d o ≡ true) (same_Some _ _ is) passes

text_of_refusal : (sender : ℕ) (d : SlaveSpec) (concerns sdn : Bool) (text reply : List ℕ) → is_reply_of sender d text ≡ true → cond concerns (cond sdn None (Some text)) None ≡ Some reply
    → is_reply_of sender d reply ≡ true
text_of_refusal sender d true sdn text reply passes is = text_of_srd sender d sdn text reply passes is
text_of_refusal sender d false sdn text reply passes is = absurd cc

-- by what an SRD to only this slave is asked
abbrev pub IsAskedBy : ℕ → ℕ → Telegram → Type 0
IsAskedBy sender station telegram = asks_srd (function_of telegram.fc) ≡ true → IsAsking sender station telegram

rule_remembers : TextsAgree → (slave : SlaveRecord) (sender : ℕ) (telegram : Telegram) (parts : Parts) (rule : Rule) → rule_at sender telegram parts slave ≡ rule
    → IsAskedBy sender slave.description.address telegram → IsShort slave → IsGiving slave → HasExtensions telegram parts → AreRemembered slave.description slave.memory
    → AreRemembered slave.description (memory_after_reply slave sender telegram rule (reply_text slave sender telegram parts rule))
unfolding reply_text
rule_remembers agree slave sender telegram parts rules.Repeat is asked short gives has was = was
rule_remembers agree slave sender telegram parts rules.NotSelected is asked short gives has was = was
rule_remembers agree slave sender telegram parts rules.Status is asked short gives has was =
    memory_by slave slave.description sender telegram rules.Status (Some (short_reply telegram ok))
    (λ srd text reply. absurd (no_status (function_of telegram.fc) (status_row sender telegram parts slave is) srd)) was
rule_remembers agree slave sender telegram parts rules.Done is asked short gives has was =
    let answer = service_answer slave parts.dsap in
    memory_by slave slave.description sender telegram rules.Done _
    (λ srd text reply. text_of_srd sender slave.description (asks_sdn (function_of telegram.fc)) _ text
    (positive_by agree sender slave.description telegram parts answer.octets (eqb (length answer.octets) 0) answer.high (asked srd) has refl (answer_short slave parts.dsap short)
    (answer_from slave parts.dsap gives) (answer_bare slave parts.dsap gives)) reply) was
rule_remembers agree slave sender telegram parts other is asked short gives has was =
    memory_by slave slave.description sender telegram other _
    (λ srd text reply. text_of_refusal sender slave.description (concerns_a_slave other) (asks_sdn (function_of telegram.fc)) (short_reply telegram (refusal_function other)) text
    (short_passes agree sender slave.description (refusal_function other) telegram (asked srd) (refusal_bare slave.description other)) reply) was

asked_by : (sender station : ℕ) (telegram : Telegram) → IsServed sender station telegram → IsAskedBy sender station telegram
asked_by sender station telegram (alone asking) = λ srd. asking
asked_by sender station telegram (with_all sdn) = λ srd. absurd (no_srd (function_of telegram.fc) sdn srd)

pub served_remembers : TextsAgree → (slave : SlaveRecord) (sender place : ℕ) (telegram : Telegram) (parts : Parts) → IsServed sender slave.description.address telegram → IsShort slave → IsGiving slave
    → parts_of telegram ≡ Some parts → AreRemembered slave.description slave.memory → AreRemembered slave.description (served slave sender place telegram parts).memory
unfolding served
served_remembers agree slave sender place telegram parts for short gives read was =
    rule_remembers agree slave sender telegram parts (rule_at sender telegram parts slave) refl (asked_by sender slave.description.address telegram for) short gives (extensions_of telegram parts read) was

-- ---- a slave that is sound and reachable gives what its configurations have

choice_is : (found : Option ℕ) (number : ℕ) → option_eq nat_eq found (Some number) ≡ true → found ≡ Some number
choice_is None number same = absurd cc
choice_is (Some n) number same = ap Some (eqb-true n number same)

first_holds : (a b : Bool) → a ≡ true → (a || b) ≡ true
first_holds true b is = refl
first_holds false b is = absurd cc

second_holds : (a b : Bool) → b ≡ true → (a || b) ≡ true
second_holds true b is = refl
second_holds false b is = is

any_at : (test : List ℕ → Bool) (known : List (List ℕ)) (number : ℕ) → number < length known → test (unwrap_or (slice_get known number) []) ≡ true → list_any test known ≡ true
any_at test [] number below is = absurd (omega (arith, below))
any_at test (first ∷ others) zero below is = first_holds (test first) (list_any test others) is
any_at test (first ∷ others) (suc number) below is = second_holds (test first) (list_any test others) (any_at test others number (omega (arith, below)) is)

shown_long : (b : Bool) (count : ℕ) (frozen_inputs inputs : List ℕ) → length frozen_inputs ≡ count → length inputs ≡ count → length (cond b frozen_inputs inputs) ≡ count
shown_long true count frozen_inputs inputs one other = one
shown_long false count frozen_inputs inputs one other = other

pub giving : (slave : SlaveRecord) → IsSound slave → has_choosable_shape slave ≡ true → IsGiving slave
giving slave sound choosable =
    let known = configurations slave.description in
    let chosen_is = choice_is (chosen known (configuration slave.description slave.shape)) slave.shape choosable in
    let below = chosen_below (configuration slave.description slave.shape) known slave.shape chosen_is in
    let shown = shown_long slave.freeze_mode (input_length slave) slave.frozen_inputs slave.inputs sound.frozen_inputs_long sound.inputs_long in
    record {
      inputs = any_at (λ octets. eqb (input_octets octets) (length (shown_inputs slave))) known slave.shape below (eq-eqb (input_length slave) (length (shown_inputs slave)) (sym shown));
      outputs = any_at (λ octets. eqb (output_octets octets) (length slave.outputs)) known slave.shape below (eq-eqb (output_length slave) (length slave.outputs) (sym sound.outputs_long));
      cfg = ap is_some chosen_is;
    }
