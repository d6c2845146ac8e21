use Rattle.toml.specs.Parse.{parse_document}
use Rattle.rack_file.proofs.Places.{reported_in}
use Rattle.rack_file.proofs.laws.bad_keys_are_reported.Goals as goal

pub returns-clause-reported : goal.returns-clause-reported
returns-clause-reported c = λ text e. reported_in (parse_document text) e

pub returns-clause-refused : goal.returns-clause-refused
returns-clause-refused c = λ text file bad is read. rw (is, read)
