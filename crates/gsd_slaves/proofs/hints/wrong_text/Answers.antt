use Rattle.std.proofs.Common.{string_bytes}
use Rattle.gsd_slaves.proofs.Appended.{taken_named}
use Rattle.gsd_slaves.proofs.hints.wrong_text.Goals as goal

pub returns : goal.returns
returns c =
    taken_named c.args.number c.text_in.result.now c.args.part.now (string_bytes c.in_ok-text.text) (string_bytes c.push_taken.new.text)
    c.in_ok-text.ensures c.in_ok-push_taken.ensures
