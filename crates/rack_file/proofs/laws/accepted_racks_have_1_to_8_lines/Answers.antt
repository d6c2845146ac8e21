use Rattle.toml.specs.Parse.{parse_document}
use Rattle.rack_file.proofs.Accepted.{of_document}
use Rattle.rack_file.proofs.laws.accepted_racks_have_1_to_8_lines.Goals as goal

pub returns-clause-least : goal.returns-clause-least
returns-clause-least c = λ text rack e. (of_document (parse_document text) rack e).lines.0

pub returns-clause-most : goal.returns-clause-most
returns-clause-most c = λ text rack e. (of_document (parse_document text) rack e).lines.1
