use Rattle.gsd_slaves.proofs.Unwritten.{no_file}
use Rattle.gsd_slaves.proofs.gsd.run_gsd.Goals as goal

pub returns-in-Err : goal.returns-in-Err
returns-in-Err g c = no_file _ _ _ c.in-Err.ensures
