use Rattle.toml.specs.Parse.{parse_document}
use Rattle.rack_file.proofs.Accepted.{of_document}
use Rattle.rack_file.proofs.laws.accepted_lines_differ_in_number.Goals as goal

pub returns : goal.returns
returns c = λ text rack e. (of_document (parse_document text) rack e).differ
