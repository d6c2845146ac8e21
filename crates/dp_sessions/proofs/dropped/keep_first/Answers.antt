use Rattle.std.proofs.Common.{◌≡◌, ◌++◌, ◌∙◌, take, rules}
use Rattle.dp_sessions.proofs.Dropping.{as_many}
use Rattle.dp_sessions.proofs.dropped.keep_first.Goals as goal

pub returns : goal.returns
returns c =
    let joined : c.try_extend_from_slice.new.self.items ≡ c.args.first.now.items ++ take c.min-room.result c.args.octets.now = search rules in
    joined ∙ as_many c.args.first.now.items c.args.octets.now c.min-room.result (search rules)
