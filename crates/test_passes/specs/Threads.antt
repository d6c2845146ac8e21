-- helper
-- Sessions of masters in threads of their own, and the journal of their closed line (own).
use Rattle.std.specs.Prelude.{◌≡◌, ◌⊎◌, ℕ, ◌+◌, List, [], ◌∷◌, map, length, sum_by, Option, Some, None}
use Rattle.std.specs.Io.KnownBytes.{Keeps}
use Rattle.std.specs.declared.snapshot.Snapshot.{Snapshot}
use mathlib.Core.Option.{some}
use lib.ListN.{get_elem?}
use Rattle.atomic_table.specs.Seated.{TableId}
use Rattle.dp_shared.specs.declared.claim_view.ClaimView.{ClaimView}
use Rattle.dp_shared.specs.declared.line_view.PassView.{PassView}
use Rattle.dp_shared.specs.Content.{Content}
use Rattle.dp_shared.specs.Numbers.{times, under}
use Rattle.dp_shared.specs.Passes.{PassIn}
use Rattle.dp_sessions.specs.declared.session_end.SessionEnd.{SessionEnd}
use Rattle.dp_sessions.specs.Sessions.{IsAccepted, Streams}
use Rattle.dp_sessions.specs.Tied.{HasAnsweredMaster}

-- A session with the line of this table. It was accepted, with the pass that served it and a note of that pass; or it was rejected, and has no
-- pass and wrote nothing.
abbrev pub IsServed : TableId → List ℕ → ℕ → Streams → SessionEnd → Option (Snapshot PassIn) → Option PassIn → Type 0
IsServed table masters turns streams end (Some note) (Some returned_pass) =
    (note.value ≡ returned_pass) × (returned_pass.table ≡ table) × ((before after : ClaimView) × IsAccepted masters turns streams before after returned_pass.view end)
IsServed table masters turns streams end None None = Keeps streams.written streams.written_after
IsServed table masters turns streams end _ _ = ⊥

-- A session, by the journal of its closed line. It was accepted, and wrote E5 and the replies of the entries under the number of its pass; or it was
-- rejected, and has no pass and wrote nothing.
abbrev pub IsInJournal : Content → ℕ → Streams → SessionEnd → Option (Snapshot PassIn) → Type 0
IsInJournal closed turns streams end (Some note) =
    HasAnsweredMaster turns streams note.value.view.saw_halt (under note.value.view.number closed.numbers closed.book.entries) end
IsInJournal closed turns streams end None = Keeps streams.written streams.written_after

-- the passes that were noted, in order
abbrev pub passes_in : List (Option (Snapshot PassIn)) → List PassView
passes_in [] = []
passes_in (Some note ∷ notes) = note.value.view ∷ passes_in notes
passes_in (None ∷ notes) = passes_in notes

-- Each entry of the journal is under the number of exactly one of these passes, or is the halt at the last place. So there are as many entries as
-- these passes have receipts, and one more for that halt.
pub record HaveAllEntries (closed : Content) (passes : List PassView) : Type 0 where
  pub each : (index n : ℕ) → get_elem? closed.numbers index ≡ some n → (n ≡ 0) ⊎ (times n (map (λ pass. pass.number) passes) ≡ 1)
  pub long : length closed.book.entries ≡ sum_by (λ pass. length pass.receipts) passes + times 0 closed.numbers
