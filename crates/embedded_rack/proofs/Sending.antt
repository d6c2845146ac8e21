-- A command to a line, by what its stream leaves.
use Rattle.std.proofs.Common.{◌≡◌, ℕ, eqb, List, length, get_or, set, Option, Some, None, Result, Ok, Err, OnOk, OnErr, IfErr, refl, sym, ap, subst, ◌∙◌}
use Rattle.std.specs.Prelude.{position, slice_get, option_map, option_and_then}
use Rattle.std.specs.Io.KnownBytes.{Appends}
use Rattle.std.proofs.lemmas.List.Quantifiers.{position-Some}
use Rattle.std.proofs.lemmas.Option.{slice_get_read}
use Rattle.dp_audit.specs.Journal.{Journal}
use Rattle.embedded_rack.specs.declared.obey_fault.ObeyFault.{ObeyFault}
use Rattle.embedded_rack.specs.declared.obey_fault.ObeyFault.TheVariants as stops
use Rattle.rack_devices.specs.declared.driven_slave.DrivenSlave.{DrivenSlave}
use Rattle.embedded_rack.specs.EmbeddedLines.{EmbeddedLine, Sent, Stream, passed, sent_at, sent}
use Rattle.dp_text.specs.Writes.{WritesPrefix}
use Rattle.embedded_rack.specs.Sends.{Sends}
use Rattle.embedded_rack.proofs.Writing.{keeps_same}

pub ends : (sending : Sent) (line : EmbeddedLine) (old new : Option (List ℕ)) (r : Result (Unit {0}) ObeyFault) → OnOk r (line ≡ sending.line) → OnOk r (Appends old new sending.text)
    → OnErr r (WritesPrefix old new sending.text) → IfErr r (λ stop. stop ≡ stops.WriteFault) → Sends (Some sending) line old new r
ends sending line old new (Ok done) leaves ok err fault = (leaves, ok)
ends sending line old new (Err stops.WriteFault) leaves ok err fault = err
ends sending line old new (Err stops.NoCommand) leaves ok err fault = absurd cc

on_both : {T E A B C : Type 0} (r : Result T E) → (A → B → C) → OnOk r A → OnOk r B → OnOk r C
on_both (Ok x) f a b = f a b
on_both (Err e) f a b = tt

pub on_ok : {T E A : Type 0} (r : Result T E) → A → OnOk r A
on_ok (Ok x) a = a
on_ok (Err e) a = tt

pub record IsFound (streams : List Stream) (master index : ℕ) (stream : Stream) : Type 0 where
  pub place_is : position (λ s. eqb s.master master) streams ≡ Some index
  pub stream_is : slice_get streams index ≡ Some stream

pub found : (streams : List Stream) (master index : ℕ) (stream : Stream) → Some index ≡ position (λ s. eqb s.master master) streams → stream ≡ get_or streams index stream
    → IsFound streams master index stream
found streams master index stream is read =
    let within = (position-Some (λ s. eqb s.master master) streams index stream (sym is)).0 in record {
      place_is = sym is;
      stream_is = slice_get_read streams (length streams) index stream refl within read;
    }

pub sends : (journal next : Journal) (streams : List Stream) (driven : List DrivenSlave) (master index : ℕ) (octets : List ℕ) (stream following : Stream) (old new : Option (List ℕ)) (r : Result (Unit {0}) ObeyFault)
    → IsFound streams master index stream
    → OnOk r (next ≡ (passed journal stream octets).journal) → OnOk r (following ≡ (passed journal stream octets).stream) → OnOk r (Appends old new (passed journal stream octets).text)
    → OnErr r (WritesPrefix old new (passed journal stream octets).text) → IfErr r (λ stop. stop ≡ stops.WriteFault)
    → Sends (sent (record { journal = journal; streams = streams; driven = driven }) master octets) (record { journal = next; streams = set streams index following; driven = driven }) old new r
sends journal next streams driven master index octets stream following old new r at journal_is stream_is ok err fault =
    let line : EmbeddedLine = record { journal = journal; streams = streams; driven = driven } in
    let sending = sent_at line octets index stream in
    let is : sent line master octets ≡ Some sending =
    ap (option_and_then (λ index. option_map (sent_at line octets index) (slice_get streams index))) at.place_is ∙ ap (option_map (sent_at line octets index)) at.stream_is in
    let leaves = on_both r (λ (w : next ≡ (passed journal stream octets).journal) (s : following ≡ (passed journal stream octets).stream).
    ap (λ v. record { journal = v; streams = set streams index following; driven = driven }) w
    ∙ ap (λ f. record { journal = (passed journal stream octets).journal; streams = set streams index f; driven = driven }) s) journal_is stream_is in
    subst (λ (o : Option Sent). Sends o (record { journal = next; streams = set streams index following; driven = driven }) old new r) (sym is)
    (ends sending (record { journal = next; streams = set streams index following; driven = driven }) old new r leaves ok err fault)

nobody : (line : EmbeddedLine) (master : ℕ) (octets : Option (List ℕ)) → None ≡ position (λ s. eqb s.master master) line.streams
    → None ≡ option_and_then (sent line master) octets
nobody line master None e = refl
nobody line master (Some octets) e = ap (option_and_then (λ index. option_map (sent_at line octets index) (slice_get line.streams index))) e

-- no stream of the line is this master's
pub unsent : (journal : Journal) (streams : List Stream) (driven : List DrivenSlave) (master : ℕ) (octets : Option (List ℕ)) (old : Option (List ℕ))
    → None ≡ position (λ s. eqb s.master master) streams
    → Sends (option_and_then (sent (record { journal = journal; streams = streams; driven = driven }) master) octets) (record { journal = journal; streams = streams; driven = driven }) old old (Err stops.NoCommand)
unsent journal streams driven master octets old e =
    let line : EmbeddedLine = record { journal = journal; streams = streams; driven = driven } in
    subst (λ (o : Option Sent). Sends o line old old (Err stops.NoCommand)) (nobody line master octets e) (keeps_same old)
