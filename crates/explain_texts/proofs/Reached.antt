-- A slave that an event reaches, and the outcome of a request that reaches one slave.
use Rattle.std.proofs.Common.{◌≡◌, ◌≢◌, ℕ, ◌+◌, Bool, true, false, not, cond, eqb, List, [], ◌∷◌, map, Option, Some, None, refl, sym, ap, subst, ◌∙◌}
use Rattle.std.specs.Prelude.{◌&&◌, is_none, option_map, is_some}
use Rattle.std.specs.Option.{option_and_then, option_map_or}
use Rattle.std.proofs.lemmas.Bool.{both_ways, cond-false, eqb-true}
use Rattle.arrayvec.specs.ArrayVec.{ArrayVec}
use Rattle.dp_telegram.specs.declared.frame.Frame.{Frame}
use Rattle.dp_telegram.specs.declared.frame.Frame.TheVariants as frames
use Rattle.dp_telegram.specs.declared.frame.Telegram.{Telegram}
use Rattle.dp_telegram.specs.declared.access.Parts.{Parts}
use Rattle.dp_telegram.specs.FrameText.{frame_of}
use Rattle.dp_telegram.specs.Access.{address_of}
use Rattle.dp_responder.specs.declared.rule.Rule.{Rule}
use Rattle.dp_responder.specs.declared.rule.Rule.TheVariants as rules
use Rattle.dp_responder.specs.Rules.{first_row}
use Rattle.dp_responder.specs.Judgement.{refusal_function}
use Rattle.dp_slave.specs.declared.description.SlaveSpec.{SlaveSpec}
use Rattle.dp_slave.specs.SlaveRecord.{SlaveRecord}
use Rattle.dp_slave.specs.Fields.{acted}
use Rattle.dp_line.specs.declared.event.Event.{Event}
use Rattle.dp_line.specs.declared.event.Event.TheVariants.{Request, Operator}
use Rattle.dp_line.specs.declared.event.Op.{Op}
use Rattle.dp_line.specs.declared.event.Outcome.TheVariants.{Reply}
use Rattle.dp_line.specs.World.{World, address_of_slave, slave_among, slave_at}
use Rattle.dp_line.specs.Events.{act_of_op, is_done_to}
use Rattle.dp_line.specs.Hearing.{Hearing, heard, is_to_all, telegram_of_frame, telegram_spelt}
use Rattle.dp_line.specs.Verdict.{concerns_a_slave, frame_has, has_foreign_sender, has_reserved_function, is_global_control, is_no_request, is_token, request_has, rows_where_known, rule_at, telegram_has, verdict_of}
use Rattle.dp_line.specs.ReplyText.{reply_text, short_reply, unless_sdn}
use Rattle.dp_line.specs.Served.{answered, executed, served}
use Rattle.dp_line.specs.Effects.{effect, is_for, outcome_heard, outcome_of, outcome_of_one, outcome_spread, reply_where_known, served_where_asked, slave_after}

-- ---- a request that concerns a slave

-- it is a telegram and a request, from a master of the line, and its access points can be read. If it is for all stations it is a
-- Global_Control, otherwise the line has the slave. Then the rules of the slave decide
pub record IsHeard (hearing : Hearing) : Type 0 where
  pub framed : is_none hearing.frame ≡ false
  pub request : frame_has is_no_request hearing ≡ false
  pub master : not hearing.is_master ≡ false
  pub extension : is_none hearing.parts ≡ false
  pub control : (telegram_has is_to_all hearing && not (request_has is_global_control hearing)) ≡ false
  pub there : (not (telegram_has is_to_all hearing) && is_none hearing.slave) ≡ false
  pub verdict : verdict_of hearing ≡ first_row (rows_where_known hearing.sender (option_and_then telegram_of_frame hearing.frame) hearing.parts hearing.slave)

past : (b : Bool) (rule rest : Rule) → concerns_a_slave rule ≡ false → concerns_a_slave (cond b rule rest) ≡ true → (b ≡ false) × (cond b rule rest ≡ rest) × (concerns_a_slave rest ≡ true)
past true rule rest silent concerns = absurd (both_ways (concerns_a_slave rule) silent concerns)
past false rule rest silent concerns = (refl, refl, concerns)

pub heard_by_slaves : (hearing : Hearing) → concerns_a_slave (verdict_of hearing) ≡ true → IsHeard hearing
unfolding verdict_of
heard_by_slaves hearing concerns =
    let over = past hearing.over rules.Halted _ refl concerns in
    let framed = past (is_none hearing.frame) rules.NoFrame _ refl over.2 in
    let master = past (not hearing.is_master) rules.NoMaster _ refl framed.2 in
    let own = past (frame_has (has_foreign_sender hearing.sender) hearing) rules.ForeignSender _ refl master.2 in
    let token = past (frame_has is_token hearing) rules.Token _ refl own.2 in
    let request = past (frame_has is_no_request hearing) rules.NotRequest _ refl token.2 in
    let function = past (telegram_has has_reserved_function hearing) rules.BadFunction _ refl request.2 in
    let extension = past (is_none hearing.parts) rules.BadExtension _ refl function.2 in
    let control = past (telegram_has is_to_all hearing && not (request_has is_global_control hearing)) rules.BadBroadcast _ refl extension.2 in
    let there = past (not (telegram_has is_to_all hearing) && is_none hearing.slave) rules.NoStation _ refl control.2 in
    record {
      framed = framed.0;
      request = request.0;
      master = master.0;
      extension = extension.0;
      control = control.0;
      there = there.0;
      verdict = over.1 ∙ framed.1 ∙ master.1 ∙ own.1 ∙ token.1 ∙ request.1 ∙ function.1 ∙ extension.1 ∙ control.1 ∙ there.1;
    }

-- the frame is a telegram
telegram_by : (frame : Option Frame) → is_none frame ≡ false → option_map_or is_no_request frame false ≡ false → is_some (option_and_then telegram_of_frame frame) ≡ true
telegram_by None framed request = absurd cc
telegram_by (Some (frames.Token da sa)) framed request = absurd cc
telegram_by (Some frames.Ack) framed request = absurd cc
telegram_by (Some (frames.Telegram telegram)) framed request = refl

pub has_telegram : (hearing : Hearing) → concerns_a_slave (verdict_of hearing) ≡ true → is_some (option_and_then telegram_of_frame hearing.frame) ≡ true
has_telegram hearing concerns =
    let known = heard_by_slaves hearing concerns in
    telegram_by hearing.frame known.framed known.request

pub record IsConcerned (hearing : Hearing) (telegram : Telegram) (parts : Parts) : Type 0 where
  pub concerned : concerns_a_slave (verdict_of hearing) ≡ true
  pub spelt : option_and_then telegram_of_frame hearing.frame ≡ Some telegram
  pub read : hearing.parts ≡ Some parts

not_false : (b : Bool) → not b ≡ false → b ≡ true
not_false true e = refl
not_false false e = absurd cc

control_by : (all control : Bool) → (all && not control) ≡ false → all ≡ true → control ≡ true
control_by true control e is = not_false control e
control_by false control e is = absurd cc

pub to_all_controls : (hearing : Hearing) (telegram : Telegram) (parts : Parts) → IsConcerned hearing telegram parts → is_to_all telegram ≡ true → is_global_control parts telegram ≡ true
to_all_controls hearing telegram parts concerned all =
    let known = heard_by_slaves hearing concerned.concerned in
    control_by (is_to_all telegram) (is_global_control parts telegram) (rw (concerned.read, concerned.spelt) at known.control) all

pub from_master : (hearing : Hearing) → concerns_a_slave (verdict_of hearing) ≡ true → hearing.is_master ≡ true
from_master hearing concerns = not_false hearing.is_master (heard_by_slaves hearing concerns).master

reached_rule : (hearing : Hearing) (telegram : Telegram) (parts : Parts) (slave : SlaveRecord) → IsConcerned hearing telegram parts → hearing.slave ≡ Some slave
    → verdict_of hearing ≡ rule_at hearing.sender telegram parts slave
unfolding rule_at
reached_rule hearing telegram parts slave concerned found =
    (heard_by_slaves hearing concerned.concerned).verdict
    ∙ ap (λ t. first_row (rows_where_known hearing.sender t hearing.parts hearing.slave)) concerned.spelt
    ∙ ap (λ p. first_row (rows_where_known hearing.sender (Some telegram) p hearing.slave)) concerned.read
    ∙ ap (λ s. first_row (rows_where_known hearing.sender (Some telegram) (Some parts) s)) found

-- ---- the outcome

-- the outcome of a request for one slave
pub outcome_one : (hearing : Hearing) (telegram : Telegram) (parts : Parts) (slave : SlaveRecord) → IsConcerned hearing telegram parts → is_to_all telegram ≡ false → hearing.slave ≡ Some slave
    → outcome_heard hearing ≡ answered (rule_at hearing.sender telegram parts slave) (reply_text slave hearing.sender telegram parts (rule_at hearing.sender telegram parts slave))
outcome_one hearing telegram parts slave concerned to_all found =
    let here = concerned.concerned in
    let spelt = concerned.spelt in
    let read = concerned.read in
    let alone : outcome_heard hearing ≡ outcome_of_one hearing = rw (here, spelt, to_all) refl in
    let known : outcome_of_one hearing ≡ answered (verdict_of hearing) (reply_text slave hearing.sender telegram parts (verdict_of hearing)) = rw (spelt, read, found) refl in
    alone ∙ known ∙ ap (λ (rule : Rule). answered rule (reply_text slave hearing.sender telegram parts rule)) (reached_rule hearing telegram parts slave concerned found)

-- if a rule of the line applies, nobody replies
silent_text : (rule : Rule) (slave : SlaveRecord) (sender : ℕ) (telegram : Telegram) (parts : Parts) → concerns_a_slave rule ≡ false → reply_text slave sender telegram parts rule ≡ None
unfolding reply_text
silent_text rules.Status slave sender telegram parts e = absurd cc
silent_text rules.Repeat slave sender telegram parts e = absurd cc
silent_text rules.NotSelected slave sender telegram parts e = absurd cc
silent_text rules.Done slave sender telegram parts e = absurd cc
silent_text other slave sender telegram parts e =
    cond-false (concerns_a_slave other) (unless_sdn telegram (short_reply telegram (refusal_function other))) None e

silent_reply : (sender : ℕ) (rule : Rule) (telegram : Option Telegram) (parts : Option Parts) (slave : Option SlaveRecord) → concerns_a_slave rule ≡ false
    → reply_where_known sender rule telegram parts slave ≡ None
silent_reply sender rule None parts slave e = refl
silent_reply sender rule (Some telegram) None slave e = refl
silent_reply sender rule (Some telegram) (Some parts) None e = refl
silent_reply sender rule (Some telegram) (Some parts) (Some slave) e = silent_text rule slave sender telegram parts e

no_reply : (rule : Rule) (reply : ArrayVec ℕ) (other : Rule) → answered rule None ≢ Reply reply other
no_reply rules.Done reply other is = absurd cc
no_reply rule reply other is = absurd cc

replied_by : (hearing : Hearing) (reply : ArrayVec ℕ) (rule : Rule) (b : Bool) → concerns_a_slave (verdict_of hearing) ≡ b → outcome_heard hearing ≡ Reply reply rule → concerns_a_slave (verdict_of hearing) ≡ true
replied_by hearing reply rule true concerns reported = concerns
replied_by hearing reply rule false silent reported =
    let none = silent_reply hearing.sender (verdict_of hearing) (option_and_then telegram_of_frame hearing.frame) hearing.parts hearing.slave silent in
    let outcome : outcome_heard hearing ≡ answered (verdict_of hearing) None = rw (silent, none) refl in
    absurd (no_reply (verdict_of hearing) reply rule (sym outcome ∙ reported))

-- a request that gets a reply concerns a slave
pub replied_concerns : (hearing : Hearing) (reply : ArrayVec ℕ) (rule : Rule) → outcome_heard hearing ≡ Reply reply rule → concerns_a_slave (verdict_of hearing) ≡ true
replied_concerns hearing reply rule = replied_by hearing reply rule (concerns_a_slave (verdict_of hearing)) refl

no_spread : (hearing : Hearing) (reply : ArrayVec ℕ) (rule : Rule) → outcome_spread hearing ≢ Reply reply rule
no_spread hearing reply rule is = absurd cc

alone_by : (hearing : Hearing) (telegram : Telegram) (reply : ArrayVec ℕ) (rule : Rule) (all : Bool) → is_to_all telegram ≡ all → concerns_a_slave (verdict_of hearing) ≡ true
    → option_and_then telegram_of_frame hearing.frame ≡ Some telegram → outcome_heard hearing ≡ Reply reply rule → is_to_all telegram ≡ false
alone_by hearing telegram reply rule false to_all concerns spelt reported = to_all
alone_by hearing telegram reply rule true to_all concerns spelt reported =
    let spread : outcome_heard hearing ≡ outcome_spread hearing = rw (concerns, spelt, to_all) refl in
    absurd (no_spread hearing reply rule (sym spread ∙ reported))

-- a request that gets a reply is for one slave
pub replied_alone : (hearing : Hearing) (telegram : Telegram) (reply : ArrayVec ℕ) (rule : Rule) → option_and_then telegram_of_frame hearing.frame ≡ Some telegram → outcome_heard hearing ≡ Reply reply rule
    → is_to_all telegram ≡ false
replied_alone hearing telegram reply rule spelt reported =
    alone_by hearing telegram reply rule (is_to_all telegram) refl (replied_concerns hearing reply rule reported) spelt reported

-- ---- the request as it was heard

pub heard_sender : (world : World) (master : ℕ) (octets : List ℕ) → (heard world master octets).sender ≡ master
unfolding heard
heard_sender world master octets = refl

pub heard_frame : (world : World) (master : ℕ) (octets : List ℕ) → (heard world master octets).frame ≡ frame_of octets
unfolding heard
heard_frame world master octets = refl

pub spelt_is : (world : World) (master : ℕ) (octets : List ℕ) → option_and_then telegram_of_frame (heard world master octets).frame ≡ telegram_spelt octets
unfolding heard
spelt_is world master octets = refl

pub heard_slave : (world : World) (master : ℕ) (octets : List ℕ) (telegram : Telegram) → telegram_spelt octets ≡ Some telegram → is_to_all telegram ≡ false
    → (heard world master octets).slave ≡ slave_at world (address_of telegram.da)
unfolding heard
heard_slave world master octets telegram spelt alone =
    rw spelt (rw alone refl)

pub outcome_is : (world : World) (master : ℕ) (octets : ArrayVec ℕ) → outcome_of world (Request master octets) ≡ outcome_heard (heard world master octets.items)
unfolding outcome_of
outcome_is world master octets = refl

-- ---- the effects of an event on one slave: it leaves the slave unchanged, a request reaches it, or an event of the operator changes it

pub data IsWay (world : World) (event : Event) (slave after : SlaveRecord) : Type 0 where
  leaves : after ≡ slave → IsWay world event slave after
  reaches : (master : ℕ) (octets : ArrayVec ℕ) (telegram : Telegram) (parts : Parts) → event ≡ Request master octets
      → IsConcerned (heard world master octets.items) telegram parts → is_for telegram slave ≡ true
      → after ≡ served slave master (world.count + 1) telegram parts → IsWay world event slave after
  operates : (op : Op) → event ≡ Operator op → after ≡ acted slave (act_of_op op) → IsWay world event slave after

asked_way : (world : World) (event : Event) (slave : SlaveRecord) (master : ℕ) (octets : ArrayVec ℕ) (telegram : Telegram) (parts : Parts) (b : Bool) → event ≡ Request master octets
    → IsConcerned (heard world master octets.items) telegram parts → is_for telegram slave ≡ b
    → IsWay world event slave (cond b (served slave master (world.count + 1) telegram parts) slave)
asked_way world event slave master octets telegram parts true is concerned asked = reaches master octets telegram parts is concerned asked refl
asked_way world event slave master octets telegram parts false is concerned asked = leaves refl

known_way : (world : World) (event : Event) (slave : SlaveRecord) (master : ℕ) (octets : ArrayVec ℕ) (telegram : Option Telegram) (parts : Option Parts) → event ≡ Request master octets
    → concerns_a_slave (verdict_of (heard world master octets.items)) ≡ true
    → option_and_then telegram_of_frame (heard world master octets.items).frame ≡ telegram → (heard world master octets.items).parts ≡ parts
    → IsWay world event slave (served_where_asked master (world.count + 1) telegram parts slave)
known_way world event slave master octets None parts is concerned spelt read = leaves refl
known_way world event slave master octets (Some telegram) None is concerned spelt read = leaves refl
known_way world event slave master octets (Some telegram) (Some parts) is concerned spelt read =
    asked_way world event slave master octets telegram parts (is_for telegram slave) is (record { concerned = concerned; spelt = spelt; read = read }) refl

concerned_way : (world : World) (event : Event) (slave : SlaveRecord) (master : ℕ) (octets : ArrayVec ℕ) (b : Bool) → event ≡ Request master octets
    → concerns_a_slave (verdict_of (heard world master octets.items)) ≡ b
    → IsWay world event slave (cond b (served_where_asked master (world.count + 1) (option_and_then telegram_of_frame (heard world master octets.items).frame) (heard world master octets.items).parts slave) slave)
concerned_way world event slave master octets true is concerned =
    known_way world event slave master octets (option_and_then telegram_of_frame (heard world master octets.items).frame) (heard world master octets.items).parts is concerned refl refl
concerned_way world event slave master octets false is concerned = leaves refl

done_way : (world : World) (op : Op) (slave : SlaveRecord) (b : Bool) → IsWay world (Operator op) slave (cond b (acted slave (act_of_op op)) slave)
done_way world op slave true = operates op refl refl
done_way world op slave false = leaves refl

pub way : (world : World) (event : Event) (slave : SlaveRecord) → IsWay world event slave (slave_after world event slave)
unfolding slave_after
way world (Request master octets) slave =
    let hearing = heard world master octets.items in
    subst (λ (sender : ℕ). IsWay world (Request master octets) slave
    (cond (concerns_a_slave (verdict_of hearing)) (served_where_asked sender (world.count + 1) (option_and_then telegram_of_frame hearing.frame) hearing.parts slave) slave))
    (sym (heard_sender world master octets.items))
    (concerned_way world (Request master octets) slave master octets (concerns_a_slave (verdict_of hearing)) refl refl)
way world (Operator op) slave = done_way world op slave (is_done_to op slave)

-- ---- the slave at an address, before and after

executed_description : (slave : SlaveRecord) (sender place : ℕ) (parts : Parts) (rule : Rule) → (executed slave sender place parts rule).description ≡ slave.description
unfolding acted
executed_description slave sender place parts rules.Done = refl
executed_description slave sender place parts other = refl

served_description : (slave : SlaveRecord) (sender place : ℕ) (telegram : Telegram) (parts : Parts) → (served slave sender place telegram parts).description ≡ slave.description
unfolding served
served_description slave sender place telegram parts = executed_description slave sender place parts _

acted_description : (slave : SlaveRecord) (op : Op) → (acted slave (act_of_op op)).description ≡ slave.description
unfolding acted
acted_description slave op = refl

way_description : (world : World) (event : Event) (slave after : SlaveRecord) → IsWay world event slave after → after.description ≡ slave.description
way_description world event slave after (leaves is) = ap (λ (s : SlaveRecord). s.description) is
way_description world event slave after (reaches master octets telegram parts request concerned asked is) =
    ap (λ (s : SlaveRecord). s.description) is ∙ served_description slave master (world.count + 1) telegram parts
way_description world event slave after (operates op operator is) = ap (λ (s : SlaveRecord). s.description) is ∙ acted_description slave op

address_kept : (world : World) (event : Event) (slave : SlaveRecord) → address_of_slave (slave_after world event slave) ≡ address_of_slave slave
address_kept world event slave = ap (λ (d : SlaveSpec). d.address) (way_description world event slave (slave_after world event slave) (way world event slave))

after_by : (f : SlaveRecord → SlaveRecord) (first : SlaveRecord) (b : Bool) (found later : Option SlaveRecord) → later ≡ option_map f found
    → cond b (Some (f first)) later ≡ option_map f (cond b (Some first) found)
after_by f first true found later same = refl
after_by f first false found later same = same

found_among : (world : World) (event : Event) (slaves : List SlaveRecord) (address : ℕ)
    → slave_among (map (slave_after world event) slaves) address ≡ option_map (slave_after world event) (slave_among slaves address)
found_among world event [] address = refl
found_among world event (first ∷ slaves) address =
    ap (λ (a : ℕ). cond (eqb a address) (Some (slave_after world event first)) (slave_among (map (slave_after world event) slaves) address)) (address_kept world event first)
    ∙ after_by (slave_after world event) first (eqb (address_of_slave first) address) (slave_among slaves address) (slave_among (map (slave_after world event) slaves) address)
    (found_among world event slaves address)

pub at_after : (world : World) (event : Event) (address : ℕ) → slave_at (effect world event).world address ≡ option_map (slave_after world event) (slave_at world address)
unfolding effect
at_after world event address = found_among world event world.slaves address

address_cases : (first slave : SlaveRecord) (address : ℕ) (found : Option SlaveRecord) (b : Bool) → eqb (address_of_slave first) address ≡ b
    → (found ≡ Some slave → address_of_slave slave ≡ address) → cond b (Some first) found ≡ Some slave → address_of_slave slave ≡ address
address_cases first slave address found true e others here = let same : slave ≡ first = cc in ap address_of_slave same ∙ eqb-true (address_of_slave first) address e
address_cases first slave address found false e others here = others here

pub found_address : (slaves : List SlaveRecord) (address : ℕ) (slave : SlaveRecord) → slave_among slaves address ≡ Some slave → address_of_slave slave ≡ address
found_address [] address slave here = absurd cc
found_address (first ∷ slaves) address slave here =
    address_cases first slave address (slave_among slaves address) (eqb (address_of_slave first) address) refl (found_address slaves address slave) here

-- the address of a request for one slave is the slave's
pub asks_it : (telegram : Telegram) (slave : SlaveRecord) → is_to_all telegram ≡ false → is_for telegram slave ≡ true → address_of_slave slave ≡ address_of telegram.da
asks_it telegram slave alone asked =
    let same : eqb (address_of_slave slave) (address_of telegram.da) ≡ true = rw alone at asked in
    eqb-true (address_of_slave slave) (address_of telegram.da) same

-- the frame of a telegram
pub telegram_frame : (frame : Option Frame) (telegram : Telegram) → option_and_then telegram_of_frame frame ≡ Some telegram → frame ≡ Some (frames.Telegram telegram)
telegram_frame None telegram is = absurd cc
telegram_frame (Some (frames.Token da sa)) telegram is = absurd cc
telegram_frame (Some frames.Ack) telegram is = absurd cc
telegram_frame (Some (frames.Telegram t)) telegram is = let same : t ≡ telegram = cc in ap (λ (x : Telegram). Some (frames.Telegram x)) same
