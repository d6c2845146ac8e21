-- promise
-- What the lines of a rack have while it is served, and what serving leaves (own).
use Rattle.std.specs.Prelude.{◌≡◌, ℕ, ◌-◌, ◌^◌, List, [], length, Option, Some, None}
use Rattle.serve_lines.specs.MasterSessions.{HasServed, MasterPlace}
use Rattle.serve_lines.specs.ReturnedPasses.{PassList}
use Rattle.serve_lines.specs.ServingLines.{AreSeated, AreServedLines}
use Rattle.serve_rack.specs.declared.serve.Served.{Served}
use Rattle.serve_rack.specs.declared.serving.ListeningLines.{ListeningLines}

-- lines that are listened at, with listeners for each, and their workers
pub record AreListening (listening : ListeningLines) : Type 0 where
  pub served : AreServedLines listening.served
  pub each : length listening.listening.items ≡ length listening.served.lines.now
  pub seated : AreSeated listening.workers

-- the most reads of a session
abbrev pub most_reads : ℕ
most_reads = 2 ^ 32 - 1

-- this number of sessions of masters was served at these places, and these are the passes of those that are kept; if a thread was refused, no pass is
abbrev pub HasLeft : List MasterPlace → Option Served → List PassList → Type 0
HasLeft places (Some served) passes = HasServed most_reads places served.masters passes
HasLeft places None passes = passes ≡ []
