use Rattle.std.proofs.Common.{string_bytes}
use Rattle.gsd_slaves.proofs.Appended.{near_named}
use Rattle.gsd_slaves.proofs.hints.unknown_text.Goals as goal

pub returns-in-Some : goal.returns-in-Some
returns-in-Some c = near_named string_bytes c.args.name.now c.text_in.result.now c.near_text.result c.near_text.ensures
