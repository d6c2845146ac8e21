use Rattle.std.proofs.Common.{append_assoc, refl}
use Rattle.std.proofs.Output.{has_written_of_eq}
use Rattle.watch_json.specs.Lines.{stations_json}
use Rattle.watch_json.proofs.lines.StationsDisplay.fmt.Goals as goal

pub returns-clause-writes : goal.returns-clause-writes
unfolding stations_json
returns-clause-writes g c = λ plain ok.
    has_written_of_eq _ _ _ _ _
    (simp append_assoc
    (rw (c.as_slice.ensures.value, c.line.ensures, c.senders.ensures, c.follower-follower.ensures, ← c.description.ensures) refl))
    (c.write.ensures.writes plain ok)
