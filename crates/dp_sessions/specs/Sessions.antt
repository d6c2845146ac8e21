-- promise
-- What a session of a master reads, exchanges and writes (own).
use Rattle.std.specs.Prelude.{◌≡◌, ◌⊎◌, ℕ, ◌+◌, ◌≤◌, Bool, true, false, ◌&&◌, List, [], ◌∷◌, ◌++◌, map, length, Option, None, IfNone, IfSome, ⊤}
use Rattle.std.specs.List.{concat}
use Rattle.std.specs.Io.KnownBytes.{Appends, Consumes, IsAtEnd, Keeps}
use Rattle.dp_telegram.specs.Access.{is_station}
use Rattle.dp_telegram.specs.declared.cutter.Cut.{Cut}
use Rattle.dp_telegram.specs.declared.cutter.Cut.TheVariants as pieces
use Rattle.dp_telegram.specs.Stream.{CutsInto}
use Rattle.dp_line.specs.declared.event.Event.{Event}
use Rattle.dp_line.specs.declared.event.Event.TheVariants.{Request}
use Rattle.dp_line.specs.declared.event.Outcome.{Outcome}
use Rattle.dp_responder.specs.declared.rule.Rule.TheVariants as rules
use Rattle.dp_line.specs.declared.event.Outcome.TheVariants.{Reply, Silence}
use Rattle.dp_text.specs.Writes.{WritesPrefix}
use Rattle.dp_audit.specs.declared.entry.Receipt.{Receipt}
use Rattle.dp_shared.specs.declared.claim_view.ClaimView.{ClaimView}
use Rattle.dp_shared.specs.Claims.{HasLost, claimed, is_master, released}
use Rattle.dp_shared.specs.declared.line_view.PassView.{PassView}
use Rattle.dp_shared.specs.Passes.{new_pass, with_receipt}
use Rattle.dp_sessions.specs.declared.session_end.SessionEnd.{SessionEnd}
use Rattle.dp_sessions.specs.declared.session_end.SessionEnd.TheVariants as ends

-- ---- exchanges

-- a master of the line: a station among its masters
abbrev pub is_master_of : List ℕ → ℕ → Bool
is_master_of masters address = is_station address && is_master masters address

-- the requests in the pieces of a master's stream, in order: one for each frame, of its octets; dropped octets are none
abbrev pub requests_in : ℕ → List Cut → List Event
requests_in master [] = []
requests_in master (pieces.Frame frame octets ∷ cuts) = Request master octets ∷ requests_in master cuts
requests_in master (pieces.Dropped fault count ∷ cuts) = requests_in master cuts

-- the octets that an answer sends: those of a reply, and none otherwise
abbrev pub octets_of : Outcome → List ℕ
octets_of (Reply octets rule) = octets.items
octets_of outcome = []

abbrev pub reply_in : Receipt → List ℕ
reply_in receipt = octets_of receipt.outcome

-- a pass after these receipts, in order
abbrev pub with_receipts : PassView → List Receipt → PassView
with_receipts pass [] = pass
with_receipts pass (receipt ∷ receipts) = with_receipts (with_receipt pass receipt receipt.place) receipts

-- what a receipt shows of its pass: without a place, the line is halted; with a place, the pass had not been answered that the line is halted
pub record IsReceivedBy (pass : PassView) (receipt : Receipt) : Type 0 where
  pub halted : IfNone receipt.place ((receipt.facts ≡ None) × (receipt.outcome ≡ Silence rules.Halted))
  pub running : IfSome receipt.place (λ _. pass.saw_halt ≡ false)

-- .. for receipts in order
abbrev pub AreReceivedBy : PassView → List Receipt → Type 0
AreReceivedBy pass [] = ⊤
AreReceivedBy pass (receipt ∷ receipts) = IsReceivedBy pass receipt × AreReceivedBy (with_receipt pass receipt receipt.place) receipts

-- a pass exchanged these pieces: one receipt for each frame, in the order of the stream; those with a place are its next receipts
pub record AreExchanged (master : ℕ) (cuts : List Cut) (receipts : List Receipt) (before after : PassView) : Type 0 where
  pub events : map (λ receipt. receipt.event) receipts ≡ requests_in master cuts
  pub gained : after ≡ with_receipts before receipts
  pub received : AreReceivedBy before receipts

-- ---- what an accepted session does

-- texts are written one after another, and a write failed in the last of them, of which a prefix is written
pub record IsCutOff (old new : Option (List ℕ)) (texts : List (List ℕ)) : Type 0 where
  pub whole : List (List ℕ)
  pub last : List ℕ
  pub texts_are : texts ≡ whole ++ last ∷ []
  pub between : Option (List ℕ)
  pub written : Appends old between (concat whole)
  pub failed : WritesPrefix between new last

-- all frames of the stream were exchanged, and every reply is written
pub record IsServed (master : ℕ) (stream : List ℕ) (before after : PassView) (old new : Option (List ℕ)) : Type 0 where
  pub cuts : List Cut
  pub rest : List ℕ
  pub cut : CutsInto stream cuts rest
  pub receipts : List Receipt
  pub exchanged : AreExchanged master cuts receipts before after
  pub written : Appends old new (concat (map reply_in receipts))

-- the first frames of the stream were exchanged, and a write failed in the reply to the last of these
pub record IsBrokenOff (master : ℕ) (stream : List ℕ) (before after : PassView) (old new : Option (List ℕ)) : Type 0 where
  pub first : List Cut
  pub later : List Cut
  pub rest : List ℕ
  pub cut : CutsInto stream (first ++ later) rest
  pub receipts : List Receipt
  pub exchanged : AreExchanged master first receipts before after
  pub written : IsCutOff old new (map reply_in receipts)

-- A stream was read, and its frames were exchanged. The end of the session says how far, how many reads it made of the `turns` that it may make,
-- and what is left to read.
abbrev pub Exchanges : SessionEnd → ℕ → ℕ → ℕ → List ℕ → PassView → PassView → Option (List ℕ) → Option (List ℕ) → Option (List ℕ) → Type 0
Exchanges ends.EndOfInput master turns made stream before after left old new = IsServed master stream before after old new × IsAtEnd left
Exchanges ends.ReadFault master turns made stream before after left old new = IsServed master stream before after old new
-- all reads that it may make were made, and each returned at least one octet
Exchanges ends.TurnLimit master turns made stream before after left old new = IsServed master stream before after old new × (made ≡ turns) × (made ≤ length stream)
Exchanges ends.WriteFault master turns made stream before after left old new = IsBrokenOff master stream before after old new
Exchanges other master turns made stream before after left old new = ⊥

-- the octet that accepts a session: a short acknowledgement
abbrev pub acceptance : List ℕ
acceptance = 0xE5 ∷ []

-- the acceptance cannot be written, and nothing more is read; or it is written, and then the stream's frames are exchanged
abbrev pub Accepts : SessionEnd → ℕ → ℕ → ℕ → List ℕ → PassView → PassView → Option (List ℕ) → Option (List ℕ) → Option (List ℕ) → Type 0
Accepts end master turns made stream before after left old new =
    ((end ≡ ends.WriteFault) × (stream ≡ []) × (after ≡ before) × WritesPrefix old new acceptance)
    ⊎ ((accepted : Option (List ℕ)) × Appends old accepted acceptance × Exchanges end master turns made stream before after left accepted new)

-- ---- a session

-- what is known of the octets that are left to read, and of the octets that are written, before and after a session
pub record Streams : Type 0 where
  pub left : Option (List ℕ)
  pub left_after : Option (List ℕ)
  pub written : Option (List ℕ)
  pub written_after : Option (List ℕ)

-- by a given pass, a stream was read in at most `turns` reads, and its frames were exchanged
pub record HasExchanged (turns : ℕ) (streams : Streams) (before after : PassView) (end : SessionEnd) : Type 0 where
  pub stream : List ℕ
  pub read : Consumes streams.left streams.left_after stream
  pub made : ℕ
  pub most : made ≤ turns
  pub exchanged : Exchanges end before.address turns made stream before after streams.left_after streams.written streams.written_after

-- no octet was read: the reader ended at once, the read failed, or no read may be made
abbrev pub EndsAtOnce : SessionEnd → ℕ → Option (List ℕ) → Type 0
EndsAtOnce ends.EndOfInput turns left = IsAtEnd left
EndsAtOnce ends.ReadFault turns left = Unit {0}
EndsAtOnce ends.TurnLimit turns left = turns ≡ 0
EndsAtOnce other turns left = ⊥

pub record CameNothing (turns : ℕ) (streams : Streams) (before after : ClaimView) (end : SessionEnd) : Type 0 where
  pub read : Keeps streams.left streams.left_after
  pub ended : EndsAtOnce end turns streams.left_after
  pub unwritten : Keeps streams.written streams.written_after
  pub unclaimed : after ≡ before

-- why an address is refused, in this order: no master of the line; held by another seat; no pass, and the address is free again
abbrev pub Refuses : SessionEnd → List ℕ → ℕ → ClaimView → ClaimView → Type 0
Refuses ends.UnknownMaster masters address before after = (is_master_of masters address ≡ false) × (after ≡ before)
Refuses ends.AddressHeld masters address before after = (is_master_of masters address ≡ true) × HasLost address before after
Refuses ends.NoPass masters address before after = (is_master_of masters address ≡ true) × (after ≡ released (claimed before address))
Refuses other masters address before after = ⊥

-- the first octet is this address, which is refused, and nothing is written
pub record IsRefused (masters : List ℕ) (streams : Streams) (before after : ClaimView) (address : ℕ) (end : SessionEnd) : Type 0 where
  pub read : Consumes streams.left streams.left_after (address ∷ [])
  pub refused : Refuses end masters address before after
  pub unwritten : Keeps streams.written streams.written_after

-- The first octet is the address of a master, which is claimed until the session ends. The octets after it are the stream, which a new pass
-- exchanges; at the end the pass is this one.
pub record IsAccepted (masters : List ℕ) (turns : ℕ) (streams : Streams) (before after : ClaimView) (pass : PassView) (end : SessionEnd) : Type 0 where
  pub address : ℕ
  pub stream : List ℕ
  pub read : Consumes streams.left streams.left_after (address ∷ stream)
  pub known : is_master_of masters address ≡ true
  pub freed : after ≡ released (claimed before address)
  -- the first read returned the address; the session may make `behind` more reads, and made `made` of them
  pub behind : ℕ
  pub first : turns ≡ behind + 1
  pub made : ℕ
  pub most : made ≤ behind
  pub number : ℕ
  pub accepted : Accepts end address behind made stream (new_pass number address) pass streams.left_after streams.written streams.written_after

-- a session with a line of these masters, of at most `turns` reads; the claim views are those of the seat that claims the address
abbrev pub IsSession : List ℕ → ℕ → Streams → ClaimView → ClaimView → SessionEnd → Type 0
IsSession masters turns streams before after end =
    CameNothing turns streams before after end
    ⊎ ((address : ℕ) × IsRefused masters streams before after address end)
    ⊎ ((pass : PassView) × IsAccepted masters turns streams before after pass end)
