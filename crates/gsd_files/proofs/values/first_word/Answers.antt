use Rattle.gsd_files.specs.Values.{is_separator}
use Rattle.gsd_files.proofs.Words.{part_found, part_is_all}
use Rattle.gsd_files.proofs.values.first_word.Goals as goal

pub returns-in-Some-clause-words : goal.returns-in-Some-clause-words
returns-in-Some-clause-words c = part_found is_separator c.args.text.now c.in-Some.index c.in-Some.ensures.index

pub returns-in-None-clause-words : goal.returns-in-None-clause-words
returns-in-None-clause-words c = part_is_all is_separator c.args.text.now c.in-None.ensures.index
