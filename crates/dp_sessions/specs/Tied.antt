-- promise
-- The result of a session by a pass, in terms of the entries of the line's journal (own).
use Rattle.std.specs.Prelude.{◌≡◌, ◌⊎◌, ℕ, ◌+◌, ◌≤◌, Bool, false, List, [], ◌∷◌, ◌++◌, map, drop, length, Option}
use Rattle.std.specs.List.{concat}
use Rattle.std.specs.Io.KnownBytes.{Appends, Consumes, IsAtEnd}
use Rattle.dp_telegram.specs.declared.cutter.Cut.{Cut}
use Rattle.dp_telegram.specs.Stream.{CutsInto}
use Rattle.dp_line.specs.declared.event.Event.{Event}
use Rattle.dp_text.specs.Writes.{WritesPrefix}
use Rattle.dp_audit.specs.declared.entry.Entry.{Entry}
use Rattle.dp_shared.specs.Content.{Content}
use Rattle.dp_shared.specs.Numbers.{under}
use Rattle.dp_shared.specs.declared.line_view.PassView.{PassView}
use Rattle.dp_sessions.specs.declared.session_end.SessionEnd.{SessionEnd}
use Rattle.dp_sessions.specs.declared.session_end.SessionEnd.TheVariants as ends
use Rattle.dp_sessions.specs.Sessions.{IsCutOff, Streams, acceptance, octets_of, requests_in}

-- the entries under the number of a pass, without those of its receipts before the session
abbrev pub entries_behind : Content → PassView → PassView → List Entry
entries_behind content before after = drop (length before.receipts) (under after.number content.numbers content.book.entries)

-- the octets that the answer of an entry sends
abbrev pub reply_of : Entry → List ℕ
reply_of entry = octets_of entry.outcome

-- the entries are those of the first frames of these pieces, in order, and of all frames unless the pass was answered that the line is halted
pub record AreOfFrames (master : ℕ) (cuts : List Cut) (saw_halt : Bool) (entries : List Entry) : Type 0 where
  pub later : List Event
  pub events : requests_in master cuts ≡ map (λ entry. entry.event) entries ++ later
  pub all : saw_halt ≡ false → later ≡ []

-- every frame of the stream was exchanged, and the replies of these entries are written
pub record IsAnsweredBy (master : ℕ) (stream : List ℕ) (saw_halt : Bool) (entries : List Entry) (old new : Option (List ℕ)) : Type 0 where
  pub cuts : List Cut
  pub rest : List ℕ
  pub cut : CutsInto stream cuts rest
  pub frames : AreOfFrames master cuts saw_halt entries
  pub written : Appends old new (concat (map reply_of entries))

-- the first frames were exchanged, and a write failed in the reply of the last entry, or after all replies
pub record IsBrokenOffBy (master : ℕ) (stream : List ℕ) (saw_halt : Bool) (entries : List Entry) (old new : Option (List ℕ)) : Type 0 where
  pub first : List Cut
  pub later : List Cut
  pub rest : List ℕ
  pub cut : CutsInto stream (first ++ later) rest
  pub frames : AreOfFrames master first saw_halt entries
  pub written : IsCutOff old new (map reply_of entries) ⊎ Appends old new (concat (map reply_of entries))

-- .. by the end of the session
abbrev pub Answers : SessionEnd → ℕ → ℕ → ℕ → List ℕ → Bool → List Entry → Option (List ℕ) → Option (List ℕ) → Option (List ℕ) → Type 0
Answers ends.EndOfInput master turns made stream saw_halt entries left old new = IsAnsweredBy master stream saw_halt entries old new × IsAtEnd left
Answers ends.ReadFault master turns made stream saw_halt entries left old new = IsAnsweredBy master stream saw_halt entries old new
Answers ends.TurnLimit master turns made stream saw_halt entries left old new = IsAnsweredBy master stream saw_halt entries old new × (made ≡ turns) × (made ≤ length stream)
Answers ends.WriteFault master turns made stream saw_halt entries left old new = IsBrokenOffBy master stream saw_halt entries old new
Answers other master turns made stream saw_halt entries left old new = ⊥

-- a stream was read in at most `turns` reads, and these entries answer it
pub record HasAnswered (turns : ℕ) (streams : Streams) (master : ℕ) (saw_halt : Bool) (entries : List Entry) (end : SessionEnd) : Type 0 where
  pub stream : List ℕ
  pub read : Consumes streams.left streams.left_after stream
  pub made : ℕ
  pub most : made ≤ turns
  pub answers : Answers end master turns made stream saw_halt entries streams.left_after streams.written streams.written_after

-- A session of a master read its address, and then a stream in the reads that were left. The acceptance could not be written, and it has no
-- entries; or it was written, and these entries answer the stream.
pub record HasAnsweredMaster (turns : ℕ) (streams : Streams) (saw_halt : Bool) (entries : List Entry) (end : SessionEnd) : Type 0 where
  pub address : ℕ
  pub stream : List ℕ
  pub read : Consumes streams.left streams.left_after (address ∷ stream)
  pub behind : ℕ
  pub first : turns ≡ behind + 1
  pub made : ℕ
  pub most : made ≤ behind
  pub accepted : ((end ≡ ends.WriteFault) × (stream ≡ []) × (entries ≡ []) × WritesPrefix streams.written streams.written_after acceptance)
      ⊎ ((between : Option (List ℕ)) × Appends streams.written between acceptance × Answers end address behind made stream saw_halt entries streams.left_after between streams.written_after)
