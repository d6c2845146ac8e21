use Rattle.std.proofs.Common.{◌≡◌, None}
use Rattle.std.proofs.lemmas.List.Elements.{All-from_recursion}
use Rattle.toml.specs.Parse.{parse_document}
use Rattle.dp_line.specs.World.{opening_fault}
use Rattle.rack_file.proofs.Accepted.{of_document}
use Rattle.rack_file.proofs.laws.accepted_lines_can_be_opened.Goals as goal

pub returns : goal.returns
returns c = λ text rack e. All-from_recursion (λ line. opening_fault line.line ≡ None) rack.lines (of_document (parse_document text) rack e).open_all
