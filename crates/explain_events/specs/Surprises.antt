-- detail
-- What surprises in a request that was done, although nothing refused it (own).
use Rattle.std.specs.Prelude.{ℕ, Bool, true, false, List, Option, Some, None}
use Rattle.dp_telegram.specs.declared.frame.Telegram.{Telegram}
use Rattle.dp_telegram.specs.Access.{address_of}
use Rattle.dp_responder.specs.declared.rule.Rule.{Rule}
use Rattle.dp_responder.specs.declared.rule.Rule.TheVariants as rules
use Rattle.dp_line.specs.Hearing.{telegram_spelt}
use Rattle.explain_events.specs.declared.done.Done.{Done}
use Rattle.explain_events.specs.declared.done.Done.TheVariants as dones
use Rattle.explain_events.specs.declared.done.PrmDone.{PrmDone}
use Rattle.explain_events.specs.declared.done.PrmDone.TheVariants as prm_dones
use Rattle.explain_events.specs.declared.reason.Reason.{Reason}
use Rattle.explain_events.specs.declared.reason.Reason.TheVariants as reasons
use Rattle.explain_events.specs.Dones.{is_low_tsdr}
use Rattle.explain_events.specs.EventContexts.{EventContextView}
use Rattle.explain_events.specs.Reasons.{reason_at}

-- Set_Prm: no Lock_Req for a slave that nobody holds, Lock_Req beside Unlock_Req, or a min TSDR below 11
abbrev pub surprises_of_holder : Option ℕ → ℕ → Bool
surprises_of_holder None tsdr = true
surprises_of_holder (Some holder) tsdr = is_low_tsdr tsdr

abbrev pub is_surprising_prm : PrmDone → Bool
is_surprising_prm (prm_dones.Wrong released) = false
is_surprising_prm (prm_dones.Unlocked address holder locks) = locks
is_surprising_prm (prm_dones.Locked address master tsdr) = is_low_tsdr tsdr
is_surprising_prm (prm_dones.LockedAgain address master since tsdr) = is_low_tsdr tsdr
is_surprising_prm (prm_dones.MinTsdrSet address holder tsdr) = surprises_of_holder holder tsdr
is_surprising_prm (prm_dones.MinTsdrStays address holder tsdr) = surprises_of_holder holder 0

abbrev pub is_surprising : Done → Bool
is_surprising (dones.Parameters done) = is_surprising_prm done
is_surprising done = false

abbrev pub is_surprising_reason : Option Reason → Bool
is_surprising_reason (Some (reasons.Done done)) = is_surprising done
is_surprising_reason other = false

abbrev pub is_surprising_telegram : EventContextView → ℕ → List ℕ → Option Telegram → Bool
is_surprising_telegram context master octets None = false
is_surprising_telegram context master octets (Some telegram) =
    is_surprising_reason (reason_at context master octets (address_of telegram.da) rules.Done)

-- octets of a master that one slave answered by this rule
abbrev pub is_surprising_answer : EventContextView → ℕ → List ℕ → Rule → Bool
is_surprising_answer context master octets rules.Done = is_surprising_telegram context master octets (telegram_spelt octets)
is_surprising_answer context master octets other = false
