use Rattle.std.proofs.Common.{append_assoc}
use Rattle.std.proofs.Output.{has_written_of_eq}
use Rattle.watch_json.specs.Slaves.{hold_json}
use Rattle.watch_json.proofs.slave.HoldDisplay.fmt.Goals as goal

pub returns-clause-writes : goal.returns-clause-writes
unfolding hold_json
returns-clause-writes g c = λ plain ok.
    has_written_of_eq _ _ _ _ _
    (rw (c.long_time.ensures, c.long_time-2.ensures, c.full_time.ensures) (simp append_assoc))
    (c.write.ensures.writes plain ok)
