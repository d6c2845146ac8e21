use Rattle.std.proofs.Common.{◌==◌, ap, subst, ◌∙◌}
use Rattle.std.specs.Prelude.{position}
use Rattle.embedded_rack.specs.RackCalls.{EmbeddedRack}
use Rattle.embedded_rack.specs.RackReasons.{ExplainsAtIndex}
use Rattle.embedded_rack.proofs.embedded_rack.EmbeddedRack.explain.Goals as goal

pub returns-in-Some : goal.returns-in-Some
returns-in-Some c =
    subst (ExplainsAtIndex c.args.self.now c.args.place c.explain_at.new.sentence.items c.explain_at.result)
    (c.in-Some.ensures.index ∙ ap (position (λ line. line.journal.number == c.args.line)) c.deref.ensures.value
    ∙ ap (λ (rack : EmbeddedRack). position (λ line. line.journal.number == c.args.line) rack.lines) c.self.view_is) c.explain_at.ensures
