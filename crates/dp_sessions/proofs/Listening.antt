-- A session of an operator between two reads, and at its ends.
use Rattle.std.proofs.Common.{◌≡◌, ℕ, ◌+◌, ◌<◌, ◌≤◌, List, [], ◌++◌, length, Option, subst, arith, length-append}
use Rattle.std.specs.Io.KnownBytes.{Consumes, IsAtEnd, Keeps}
use Rattle.dp_shared.specs.declared.line_view.PassView.{PassView}
use Rattle.rack_devices.specs.declared.driven_slave.DrivenSlave.{DrivenSlave}
use Rattle.dp_sessions.specs.declared.session_end.SessionEnd.{SessionEnd}
use Rattle.dp_sessions.specs.declared.session_end.SessionEnd.TheVariants as ends
use Rattle.dp_sessions.specs.Operators.{HasOperatedBy, Operates}
use Rattle.dp_sessions.specs.Operating.{AreServedTo, BreaksOff, GoesOn}
use Rattle.dp_sessions.proofs.Exchanging.{consumed_none, consumes_kept, consumes_more, consumes_none}
use Rattle.dp_sessions.proofs.Operating.{served_all, served_start}

-- this number of reads gave a stream, and `held` is stored of its last line
pub record IsListening (driven : List DrivenSlave) (reads : ℕ) (held : List ℕ) (before after : PassView) (left left_now old new : Option (List ℕ)) : Type 0 where
  pub stream : List ℕ
  pub read : Consumes left left_now stream
  pub served : AreServedTo driven stream held before after old new
  pub counted : reads ≤ length stream

pub way_start : (driven : List DrivenSlave) (reads : ℕ) (held : List ℕ) (pass : PassView) (left old : Option (List ℕ)) → reads ≡ 0 → held ≡ [] → IsListening driven reads held pass pass left left old old
way_start driven reads held pass left old unread empty = record { stream = []; read = consumes_none left; served = served_start driven held pass old empty; counted = omega arith }

-- one more read, and the lines that it ended were answered
pub way_more : (driven : List DrivenSlave) (reads now_made : ℕ) (held next octets : List ℕ) (p q r : PassView) (l now then a b c : Option (List ℕ))
    → now_made ≡ reads + 1 → IsListening driven reads held p q l now a b → Consumes now then octets → 0 < length octets → GoesOn driven octets held next q r b c
    → IsListening driven now_made next p r l then a c
way_more driven reads now_made held next octets p q r l now then a b c one way read some more =
    let counted = way.counted in record {
      stream = way.stream ++ octets;
      read = consumes_more l now then way.stream octets way.read read;
      served = more way.stream p a way.served;
      counted = omega (arith, length-append way.stream octets);
    }

abbrev pub Listens : SessionEnd → List DrivenSlave → ℕ → ℕ → PassView → PassView → Option (List ℕ) → Option (List ℕ) → Option (List ℕ) → Option (List ℕ) → Type 0
Listens end driven turns made p q l now a b = (stream : List ℕ) × Consumes l now stream × Operates end driven turns made stream p q now a b

pub ends_of_input : (driven : List DrivenSlave) (turns made reads : ℕ) (held : List ℕ) (p q : PassView) (l now then a b : Option (List ℕ))
    → IsListening driven reads held p q l now a b → Consumes now then [] → IsAtEnd then → Listens ends.EndOfInput driven turns made p q l then a b
ends_of_input driven turns made reads held p q l now then a b way read ended = (
  way.stream,
  consumes_kept l now then way.stream way.read (consumed_none now then read),
  (served_all driven way.stream held p q a b way.served, ended),
)

pub ends_of_read : (driven : List DrivenSlave) (turns made reads : ℕ) (held : List ℕ) (p q : PassView) (l now then a b : Option (List ℕ))
    → IsListening driven reads held p q l now a b → Keeps now then → Listens ends.ReadFault driven turns made p q l then a b
ends_of_read driven turns made reads held p q l now then a b way kept =
    (way.stream, consumes_kept l now then way.stream way.read kept, served_all driven way.stream held p q a b way.served)

pub ends_of_turns : (driven : List DrivenSlave) (turns reads : ℕ) (held : List ℕ) (p q : PassView) (l now a b : Option (List ℕ))
    → IsListening driven reads held p q l now a b → reads ≤ turns → turns ≤ reads → Listens ends.TurnLimit driven turns reads p q l now a b
ends_of_turns driven turns reads held p q l now a b way most all =
    let counted = way.counted in (way.stream, way.read, (served_all driven way.stream held p q a b way.served, omega arith, counted))

pub ends_of_write : (driven : List DrivenSlave) (turns made reads : ℕ) (held octets : List ℕ) (p q r : PassView) (l now then a b c : Option (List ℕ))
    → IsListening driven reads held p q l now a b → Consumes now then octets → BreaksOff driven octets held q r b c → Listens ends.WriteFault driven turns made p r l then a c
ends_of_write driven turns made reads held octets p q r l now then a b c way read broken =
    (way.stream ++ octets, consumes_more l now then way.stream octets way.read read, broken way.stream p a way.served)

-- the same slaves
pub goes_on_as : (driven same : List DrivenSlave) (octets held next : List ℕ) (p q : PassView) (a b : Option (List ℕ)) → same ≡ driven → GoesOn same octets held next p q a b → GoesOn driven octets held next p q a b
goes_on_as driven same octets held next p q a b is = subst (λ d. GoesOn d octets held next p q a b) is

pub breaks_off_as : (driven same : List DrivenSlave) (octets held : List ℕ) (p q : PassView) (a b : Option (List ℕ)) → same ≡ driven → BreaksOff same octets held p q a b → BreaksOff driven octets held p q a b
breaks_off_as driven same octets held p q a b is = subst (λ d. BreaksOff d octets held p q a b) is

pub operated_in : (end : SessionEnd) (driven : List DrivenSlave) (turns made : ℕ) (p q : PassView) (l now a b : Option (List ℕ)) → made ≤ turns → Listens end driven turns made p q l now a b
    → HasOperatedBy driven turns (record { left = l; left_after = now; written = a; written_after = b }) p q end
operated_in end driven turns made p q l now a b most listens = record { stream = listens.0; read = listens.1; made = made; most = most; operated = listens.2 }
