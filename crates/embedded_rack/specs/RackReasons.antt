-- detail
-- The reason of an entry of a rack in process (own).
use Rattle.std.specs.Prelude.{◌≡◌, ℕ, ◌==◌, List, slice_get, position, Option, Some, None, Result, Err}
use Rattle.dp_line.specs.World.{Description}
use Rattle.embedded_rack.specs.declared.entry_reason.EntryReason.{EntryReason}
use Rattle.embedded_rack.specs.declared.entry_reason.ReasonFault.{ReasonFault}
use Rattle.embedded_rack.specs.declared.entry_reason.ReasonFault.TheVariants as faults
use Rattle.embedded_rack.specs.EmbeddedLines.{EmbeddedLine}
use Rattle.embedded_rack.specs.EntryReasons.{Explains, explained_at, first_context}
use Rattle.embedded_rack.specs.RackCalls.{EmbeddedRack}

-- of a line with this description
abbrev pub ExplainsDescribed : EmbeddedRack → EmbeddedLine → ℕ → List ℕ → Result EntryReason ReasonFault → Option Description → Type 0
ExplainsDescribed rack line place sentence result None = result ≡ Err faults.NoLine
ExplainsDescribed rack line place sentence result (Some description) =
    Explains (explained_at line.journal (first_context rack.forgets description) place) sentence result

abbrev pub ExplainsLine : EmbeddedRack → ℕ → ℕ → List ℕ → Result EntryReason ReasonFault → Option EmbeddedLine → Type 0
ExplainsLine rack index place sentence result None = result ≡ Err faults.NoLine
ExplainsLine rack index place sentence result (Some line) = ExplainsDescribed rack line place sentence result (slice_get rack.described index)

abbrev pub ExplainsAtIndex : EmbeddedRack → ℕ → List ℕ → Result EntryReason ReasonFault → Option ℕ → Type 0
ExplainsAtIndex rack place sentence result None = result ≡ Err faults.NoLine
ExplainsAtIndex rack place sentence result (Some index) = ExplainsLine rack index place sentence result (slice_get rack.lines index)

-- the facts and the sentence of the entry at a place of the first line of this number; NoLine if there is no such line
abbrev pub ExplainsEntry : EmbeddedRack → ℕ → ℕ → List ℕ → Result EntryReason ReasonFault → Type 0
ExplainsEntry rack number place sentence result =
    ExplainsAtIndex rack place sentence result (position (λ line. line.journal.number == number) rack.lines)
