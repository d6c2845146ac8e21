use Rattle.gsd_files.specs.Files.{is_lf}
use Rattle.gsd_files.proofs.Words.{part_found, part_is_all}
use Rattle.gsd_files.proofs.lines.first_line.Goals as goal

pub returns-in-Some-clause-lines : goal.returns-in-Some-clause-lines
returns-in-Some-clause-lines c = part_found is_lf c.args.text.now c.in-Some.index c.in-Some.ensures.index

pub returns-in-None-clause-lines : goal.returns-in-None-clause-lines
returns-in-None-clause-lines c = part_is_all is_lf c.args.text.now c.in-None.ensures.index
