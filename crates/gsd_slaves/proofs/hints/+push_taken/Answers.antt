use Rattle.std.proofs.Common.{string_bytes}
use Rattle.gsd_slaves.proofs.Appended.{names_behind}
use Rattle.gsd_slaves.proofs.hints.+push_taken.Goals as goal

pub returns-in_ok-push_name-in-len1-up : goal.returns-in_ok-push_name-in-len1-up
returns-in_ok-push_name-in-len1-up t c =
    names_behind c.text_in.result.now (string_bytes c.args.text.now) (string_bytes c.push_name.new.text) (string_bytes c.push_taken-in-len1-up.new.text)
    c.push_taken-in-len1-up.result c.in_ok-push_name-in-len1-up.ensures c.push_taken-in-len1-up.ensures
