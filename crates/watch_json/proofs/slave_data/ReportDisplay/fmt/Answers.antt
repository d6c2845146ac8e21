use Rattle.std.proofs.Common.{append_assoc}
use Rattle.std.proofs.Output.{has_written_of_eq}
use Rattle.watch_json.specs.Slaves.{report_json}
use Rattle.watch_json.proofs.slave_data.ReportDisplay.fmt.Goals as goal

pub returns-clause-writes : goal.returns-clause-writes
unfolding report_json
returns-clause-writes g c = λ plain ok.
    has_written_of_eq _ _ _ _ _
    (rw (c.truth_name-ext.ensures, c.truth_name-stat.ensures, c.truth_name-overflow.ensures, c.truth_name-unread.ensures) (simp append_assoc))
    (c.write.ensures.writes plain ok)
