-- detail
-- The texts of events and answers (own).
use Rattle.std.specs.Prelude.{codes, ℕ, Bool, true, false, ◌||◌, if◌then◌else◌, List, [], ◌∷◌, ◌++◌, Option, Some, None}
use Rattle.std.specs.Fmt.{decimal}
use Rattle.hex.specs.Hex.{encode_lower}
use Rattle.dp_telegram.specs.declared.fault.FrameFault.{FrameFault}
use Rattle.dp_telegram.specs.Names.{frame_fault_name}
use Rattle.dp_sap.specs.declared.state.State.{State}
use Rattle.dp_sap.specs.Names.{state_name}
use Rattle.dp_responder.specs.declared.rule.Rule.{Rule}
use Rattle.dp_responder.specs.Rules.{rule_name}
use Rattle.dp_slave.specs.declared.view.SlaveView.{SlaveView}
use Rattle.dp_line.specs.declared.event.Event.{Event}
use Rattle.dp_line.specs.declared.event.Event.TheVariants.{Request, Operator}
use Rattle.dp_line.specs.declared.event.Op.{Op}
use Rattle.dp_line.specs.declared.event.Op.TheVariants.{Input, Diag, Busy, Tick, Halt}
use Rattle.dp_line.specs.declared.event.Outcome.{Outcome}
use Rattle.dp_line.specs.declared.event.Outcome.TheVariants.{Reply, Silence, Spread, Released, Done, Refused}
use Rattle.dp_line.specs.Names.{operator_fault_name}

-- octets: pairs of digits in lower case, `-` for none
abbrev pub octets_text : List ℕ → List ℕ
octets_text [] = codes "-"
octets_text (octet ∷ octets) = encode_lower (octet ∷ octets)

-- a letter if its flag is set
abbrev pub letter_where : Bool → List ℕ → List ℕ
letter_where true letter = letter
letter_where false letter = []

-- the flags of a diagnosis: those of `e` (ext), `s` (stat) and `o` (overflow) that are set, `-` for none
abbrev pub flags_text : Bool → Bool → Bool → List ℕ
flags_text ext stat overflow =
    if ext || stat || overflow
    then letter_where ext (codes "e") ++ letter_where stat (codes "s") ++ letter_where overflow (codes "o")
    else codes "-"

-- a point, `default` for the default one
abbrev pub point_text : Option ℕ → List ℕ
point_text None = codes "default"
point_text (Some point) = decimal point

abbrev pub on_or_off_text : Bool → List ℕ
on_or_off_text true = codes "on"
on_or_off_text false = codes "off"

-- what an operator does: `in A HEX`, `diag A FLAGS HEX`, `busy A POINT on` or `off`, `tick N` or `halt`
abbrev pub op_text : Op → List ℕ
op_text (Input address octets) = codes "in " ++ decimal address ++ codes " " ++ octets_text octets.items
op_text (Diag address ext stat overflow octets) =
    codes "diag " ++ decimal address ++ codes " " ++ flags_text ext stat overflow ++ codes " " ++ octets_text octets.items
op_text (Busy address point on) =
    codes "busy " ++ decimal address ++ codes " " ++ point_text point ++ codes " " ++ on_or_off_text on
op_text (Tick units) = codes "tick " ++ decimal units
op_text Halt = codes "halt"

-- an event: `req M HEX`, or what the operator does
abbrev pub event_text : Event → List ℕ
event_text (Request master octets) = codes "req " ++ decimal master ++ codes " " ++ octets_text octets.items
event_text (Operator op) = op_text op

-- a holder, or `none`
abbrev pub holder_text : Option ℕ → List ℕ
holder_text None = codes "none"
holder_text (Some master) = decimal master

-- the facts of an event: `none`, or the state of the slave and then its holder
abbrev pub facts_text : Option (State × Option ℕ) → List ℕ
facts_text None = codes "none"
facts_text (Some facts) = state_name facts.0 ++ codes " " ++ holder_text facts.1

-- addresses, each after a space
abbrev pub addresses_text : List ℕ → List ℕ
addresses_text [] = []
addresses_text (address ∷ addresses) = codes " " ++ decimal address ++ addresses_text addresses

-- an address and the rule of its slave: ` A:RULE`
abbrev pub pair_text : ℕ × Rule → List ℕ
pair_text pair = codes " " ++ decimal pair.0 ++ codes ":" ++ rule_name pair.1

-- pairs of an address and a rule, in this order
abbrev pub pairs_text : List (ℕ × Rule) → List ℕ
pairs_text [] = []
pairs_text (pair ∷ pairs) = pair_text pair ++ pairs_text pairs

-- an outcome: `reply HEX RULE`, `silence RULE`, `spread` with ` A:RULE` for each slave of the sender, `released` with ` A` for each
-- released slave, `done` or `refused FAULT`
abbrev pub outcome_text : Outcome → List ℕ
outcome_text (Reply octets rule) = codes "reply " ++ encode_lower octets.items ++ codes " " ++ rule_name rule
outcome_text (Silence rule) = codes "silence " ++ rule_name rule
outcome_text (Spread pairs) = codes "spread" ++ pairs_text pairs.items
outcome_text (Released addresses) = codes "released" ++ addresses_text addresses.items
outcome_text Done = codes "done"
outcome_text (Refused fault) = codes "refused " ++ operator_fault_name fault

-- the line that answers an operator: `OUTCOME`
abbrev pub outcome_line : Outcome → List ℕ
outcome_line outcome = outcome_text outcome ++ codes "\n"

-- the line that answers a master: `M: OUTCOME`
abbrev pub answer_text : ℕ → Outcome → List ℕ
answer_text master outcome = decimal master ++ codes ": " ++ outcome_text outcome ++ codes "\n"

-- the line that reports to a master what was dropped from its stream: `M: dropped FAULT COUNT`
abbrev pub dropped_text : ℕ → FrameFault → ℕ → List ℕ
dropped_text master fault count =
    decimal master ++ codes ": dropped " ++ frame_fault_name fault ++ codes " " ++ decimal count ++ codes "\n"

-- the line that lists the slaves of a master, in the order of the list: `owned` with ` A` for each
abbrev pub owned_text : List ℕ → List ℕ
owned_text addresses = codes "owned" ++ addresses_text addresses ++ codes "\n"

-- the line that reports the number of device inputs recorded: `stepped N`
abbrev pub stepped_text : ℕ → List ℕ
stepped_text recorded = codes "stepped " ++ decimal recorded ++ codes "\n"

-- the time that a watchdog has left, in units of 10 ms, or `off`
abbrev pub watchdog_text : Option ℕ → List ℕ
watchdog_text None = codes "off"
watchdog_text (Some left) = decimal left

-- the line that shows a slave, with the inputs of its device and its outputs: `show A STATE HOLDER in HEX out HEX wd N`
abbrev pub slave_text : SlaveView → List ℕ
slave_text slave =
    codes "show " ++ decimal slave.address ++ codes " " ++ facts_text (Some (slave.state, slave.holder))
    ++ codes " in " ++ octets_text slave.inputs.items
    ++ codes " out " ++ octets_text slave.outputs.items
    ++ codes " wd " ++ watchdog_text slave.left ++ codes "\n"

-- the line for a slave, or for an address that no slave has
abbrev pub show_text : Option SlaveView → List ℕ
show_text None = codes "refused NoStation\n"
show_text (Some slave) = slave_text slave
