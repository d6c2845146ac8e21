-- A session between two reads, and at its ends.
use Rattle.std.proofs.Common.{◌≡◌, ℕ, ◌+◌, ◌<◌, ◌≤◌, List, [], ◌++◌, length, Option, refl, sym, subst, arith, length-append}
use Rattle.std.specs.Io.KnownBytes.{Consumes, IsAtEnd, Keeps}
use Rattle.dp_telegram.specs.Stream.{CutsInto, cuts_of, uncut}
use Rattle.dp_shared.specs.declared.line_view.PassView.{PassView}
use Rattle.dp_sessions.specs.declared.session_end.SessionEnd.{SessionEnd}
use Rattle.dp_sessions.specs.declared.session_end.SessionEnd.TheVariants as ends
use Rattle.dp_sessions.specs.Sessions.{Exchanges, HasExchanged}
use Rattle.dp_sessions.specs.SessionProgress.{IsBrokenIn, IsServedTo}
use Rattle.dp_sessions.proofs.Exchanging.{broken_off, broken_then, consumed_none, consumes_kept, consumes_more, consumes_none, served_more, served_none, served_then, served_whole}

-- this number of reads gave a stream, and the octets held are no piece
pub record IsUnderWay (master reads : ℕ) (held : List ℕ) (before after : PassView) (left left_now old new : Option (List ℕ)) : Type 0 where
  pub stream : List ℕ
  pub read : Consumes left left_now stream
  pub served : IsServedTo master stream held before after old new
  pub settled : cuts_of held ≡ uncut held
  pub counted : reads ≤ length stream

pub way_start : (master reads : ℕ) (held : List ℕ) (pass : PassView) (left old : Option (List ℕ)) → reads ≡ 0 → held ≡ [] → IsUnderWay master reads held pass pass left left old old
way_start master reads held pass left old unread empty =
    subst (λ h. IsUnderWay master reads h pass pass left left old old) (sym empty)
    (record { stream = []; read = consumes_none left; served = served_none master [] pass old; settled = refl; counted = omega arith })

-- one more read, and its octets were exchanged
pub way_more : (master same reads now_made : ℕ) (held next octets : List ℕ) (p q r : PassView) (l now then a b c : Option (List ℕ))
    → same ≡ master → now_made ≡ reads + 1 → IsUnderWay master reads held p q l now a b → Consumes now then octets → 0 < length octets → IsServedTo same (held ++ octets) next q r b c → cuts_of next ≡ uncut next
    → IsUnderWay master now_made next p r l then a c
way_more master same reads now_made held next octets p q r l now then a b c is one way read some more settled =
    let counted = way.counted in record {
      stream = way.stream ++ octets;
      read = consumes_more l now then way.stream octets way.read read;
      served =
          served_then master (way.stream ++ octets) (held ++ octets) next p q r a b c
          (served_more master way.stream held octets p q a b way.served)
          (subst (λ m. IsServedTo m (held ++ octets) next q r b c) is more);
      settled = settled;
      counted = omega (arith, length-append way.stream octets);
    }

abbrev pub TheLaw : Type 0
TheLaw = (stream : List ℕ) → CutsInto stream (cuts_of stream).cuts (cuts_of stream).rest

abbrev pub Runs : SessionEnd → ℕ → ℕ → ℕ → PassView → PassView → Option (List ℕ) → Option (List ℕ) → Option (List ℕ) → Option (List ℕ) → Type 0
Runs end master turns made p q l now a b = (stream : List ℕ) × Consumes l now stream × Exchanges end master turns made stream p q now a b

pub ends_of_input : (master turns made reads : ℕ) (held : List ℕ) (p q : PassView) (l now then a b : Option (List ℕ))
    → TheLaw → IsUnderWay master reads held p q l now a b → Consumes now then [] → IsAtEnd then → Runs ends.EndOfInput master turns made p q l then a b
ends_of_input master turns made reads held p q l now then a b law way read ended = (
  way.stream,
  consumes_kept l now then way.stream way.read (consumed_none now then read),
  (served_whole master way.stream held p q a b (law way.stream) way.served way.settled, ended),
)

pub ends_of_read : (master turns made reads : ℕ) (held : List ℕ) (p q : PassView) (l now then a b : Option (List ℕ))
    → TheLaw → IsUnderWay master reads held p q l now a b → Keeps now then → Runs ends.ReadFault master turns made p q l then a b
ends_of_read master turns made reads held p q l now then a b law way kept = (
  way.stream,
  consumes_kept l now then way.stream way.read kept,
  served_whole master way.stream held p q a b (law way.stream) way.served way.settled,
)

pub ends_of_turns : (master turns reads : ℕ) (held : List ℕ) (p q : PassView) (l now a b : Option (List ℕ))
    → TheLaw → IsUnderWay master reads held p q l now a b → reads ≤ turns → turns ≤ reads → Runs ends.TurnLimit master turns reads p q l now a b
ends_of_turns master turns reads held p q l now a b law way most all =
    let counted = way.counted in (
      way.stream,
      way.read,
      (served_whole master way.stream held p q a b (law way.stream) way.served way.settled, omega arith, counted),
    )

pub ends_of_write : (master same turns made reads : ℕ) (held octets : List ℕ) (p q r : PassView) (l now then a b c : Option (List ℕ))
    → TheLaw → same ≡ master → IsUnderWay master reads held p q l now a b → Consumes now then octets → IsBrokenIn same (held ++ octets) q r b c
    → Runs ends.WriteFault master turns made p r l then a c
ends_of_write master same turns made reads held octets p q r l now then a b c law is way read broken =
    let stream = way.stream ++ octets in (
      stream,
      consumes_more l now then way.stream octets way.read read,
      broken_off master stream p r a c (law stream)
          (broken_then master stream (held ++ octets) p q r a b c
          (served_more master way.stream held octets p q a b way.served)
          (subst (λ m. IsBrokenIn m (held ++ octets) q r b c) is broken)),
    )

pub exchanged_in : (end : SessionEnd) (turns made : ℕ) (p q : PassView) (l now a b : Option (List ℕ)) → made ≤ turns → Runs end p.address turns made p q l now a b
    → HasExchanged turns (record { left = l; left_after = now; written = a; written_after = b }) p q end
exchanged_in end turns made p q l now a b most runs = record { stream = runs.0; read = runs.1; made = made; most = most; exchanged = runs.2 }
