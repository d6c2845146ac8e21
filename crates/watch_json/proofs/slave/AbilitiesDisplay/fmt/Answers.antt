use Rattle.std.proofs.Common.{append_assoc}
use Rattle.std.proofs.Output.{has_written_of_eq}
use Rattle.watch_json.specs.Slaves.{abilities_json}
use Rattle.watch_json.proofs.slave.AbilitiesDisplay.fmt.Goals as goal

pub returns-clause-writes : goal.returns-clause-writes
unfolding abilities_json
returns-clause-writes g c = λ plain ok.
    has_written_of_eq _ _ _ _ _
    (rw (c.truth_name-sync.ensures, c.truth_name-freeze.ensures, c.truth_name-failsafe.ensures) (simp append_assoc))
    (c.write.ensures.writes plain ok)
