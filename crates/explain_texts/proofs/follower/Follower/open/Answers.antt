use Rattle.dp_line.specs.World.{description_of}
use Rattle.dp_text.specs.Words.{lines_of}
use Rattle.dp_audit.specs.Check.{places_of_lines}
use Rattle.explain_texts.proofs.FollowedRow.{opened_is}
use Rattle.explain_texts.proofs.follower.Follower.open.Goals as goal

pub returns : goal.returns
returns c =
    let line = description_of c.args.line.now in
    let lines = lines_of c.args.header.now in
    opened_is c.in-Ok-new.history c.in-Ok.before.world line lines c.in-Ok.ensures (c.in-Ok-new.ensures (places_of_lines line lines))
