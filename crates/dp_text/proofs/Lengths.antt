-- The lengths of texts.
use Rattle.std.proofs.Common.{◌≤◌, ◌*◌, ◌≡◌, ℕ, List, [], ◌∷◌, ◌++◌, length, lit≤, length-append, append_assoc}
use Rattle.hex.specs.Hex.{encode_lower, lower_digits}
use Rattle.hex.proofs.HexLemmas.{length-encode_with}
use Rattle.dp_telegram.specs.declared.fault.FrameFault.{FrameFault}
use Rattle.dp_telegram.specs.declared.fault.FrameFault.TheVariants as faults
use Rattle.dp_telegram.specs.Names.{frame_fault_name}
use Rattle.dp_sap.specs.declared.state.State.{State}
use Rattle.dp_sap.specs.declared.state.State.TheVariants as states
use Rattle.dp_sap.specs.Names.{state_name}
use Rattle.dp_responder.specs.declared.rule.Rule.{Rule}
use Rattle.dp_responder.specs.declared.rule.Rule.TheVariants as rules
use Rattle.dp_responder.specs.Rules.{rule_name}
use Rattle.dp_line.specs.declared.fault.OperatorFault.{OperatorFault}
use Rattle.dp_line.specs.declared.fault.OperatorFault.TheVariants as refusals
use Rattle.dp_line.specs.Names.{operator_fault_name}
use Rattle.dp_text.proofs.Decimals.{short_octet}

pub rule_is_short : (rule : Rule) → length (rule_name rule) ≤ 13
rule_is_short rules.Halted = lit≤ tt
rule_is_short other = lit≤ tt

pub fault_is_short : (fault : FrameFault) → length (frame_fault_name fault) ≤ 7
fault_is_short faults.NoStart = lit≤ tt
fault_is_short faults.BadHead = lit≤ tt
fault_is_short faults.BadEnd = lit≤ tt
fault_is_short faults.Short = lit≤ tt
fault_is_short faults.Long = lit≤ tt

pub refusal_is_short : (fault : OperatorFault) → length (operator_fault_name fault) ≤ 12
refusal_is_short refusals.NoStation = lit≤ tt
refusal_is_short refusals.WrongLength = lit≤ tt
refusal_is_short refusals.UnknownPoint = lit≤ tt
refusal_is_short refusals.Halted = lit≤ tt

pub state_is_short : (state : State) → length (state_name state) ≤ 8
state_is_short states.WaitPrm = lit≤ tt
state_is_short states.WaitCfg = lit≤ tt
state_is_short states.DataExch = lit≤ tt

-- two digits for each octet
pub hex_length : (octets : List ℕ) → length (encode_lower octets) ≡ 2 * length octets
hex_length octets = length-encode_with lower_digits octets

pub ruleset lengths = (rule_is_short, fault_is_short, refusal_is_short, state_is_short, hex_length, short_octet, length-append, append_assoc)
