use Rattle.std.proofs.Common.{append_assoc}
use Rattle.std.proofs.Output.{has_written_of_eq}
use Rattle.watch_json.specs.Slaves.{data_json}
use Rattle.watch_json.proofs.slave_data.DataDisplay.fmt.Goals as goal

pub returns-clause-writes : goal.returns-clause-writes
unfolding data_json
returns-clause-writes g c = λ plain ok.
    has_written_of_eq _ _ _ _ _
    (rw (c.as_slice.ensures.value, c.as_slice-2.ensures.value, c.as_slice-3.ensures.value, c.as_slice-4.ensures.value) (simp append_assoc))
    (c.write.ensures.writes plain ok)
