use Rattle.gsd_files.proofs.ShortRows.{module_fits}
use Rattle.gsd_files.proofs.laws.no_row_of_a_module_is_long.Goals as goal

pub returns : goal.returns
returns c = module_fits
