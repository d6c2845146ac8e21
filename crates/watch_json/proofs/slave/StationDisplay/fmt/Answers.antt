use Rattle.std.proofs.Common.{append_assoc}
use Rattle.std.proofs.Output.{has_written_of_eq}
use Rattle.watch_json.specs.Slaves.{station_json}
use Rattle.watch_json.proofs.slave.StationDisplay.fmt.Goals as goal

pub returns-clause-writes : goal.returns-clause-writes
unfolding station_json
returns-clause-writes g c = λ plain ok.
    has_written_of_eq _ _ _ _ _
    (rw (c.as_bytes.ensures.value, c.state_name.ensures, c.long.ensures) (simp append_assoc))
    (c.write.ensures.writes plain ok)
