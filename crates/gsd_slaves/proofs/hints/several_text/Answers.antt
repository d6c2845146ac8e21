use Rattle.std.proofs.Common.{string_bytes}
use Rattle.gsd_slaves.proofs.Appended.{several_named}
use Rattle.gsd_slaves.proofs.hints.several_text.Goals as goal

pub returns : goal.returns
returns c = several_named c.args.name.now (string_bytes c.in_ok-text.text) (string_bytes c.push_beginning.new.text) c.in_ok-text.ensures c.in_ok-push_beginning.ensures
