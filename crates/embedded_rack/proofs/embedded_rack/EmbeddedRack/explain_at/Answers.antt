use Rattle.std.proofs.Common.{◌<◌, length, sym, ap, subst, ◌∙◌, Err}
use Rattle.std.specs.Prelude.{slice_get}
use Rattle.dp_line.specs.World.{description_of}
use Rattle.embedded_rack.specs.declared.entry_reason.ReasonFault.TheVariants as faults
use Rattle.embedded_rack.specs.RackCalls.{EmbeddedRack, descriptions_of}
use Rattle.embedded_rack.specs.RackReasons.{ExplainsLine}
use Rattle.embedded_rack.proofs.Replaying.{line_explained, no_line_explained}
use Rattle.embedded_rack.proofs.embedded_rack.EmbeddedRack.explain_at.Goals as goal

pub returns-in-Some : goal.returns-in-Some
returns-in-Some c =
    let rack : EmbeddedRack = record { described = descriptions_of c.self.inside.specs.items; forgets = c.self.inside.forgets; lines = c.self.inside.lines.items; answer = c.self.inside.answer; text = c.self.inside.text } in
    let within : c.args.index < length rack.lines = subst (λ (r : EmbeddedRack). c.args.index < length r.lines) (sym c.self.view_is) c.requires in
    subst (λ (r : EmbeddedRack). ExplainsLine r c.args.index c.args.place c.explain.new.sentence.items c.explain.result (slice_get r.lines c.args.index)) c.self.view_is
    (line_explained rack c.args.index c.args.place c.index.result.now (description_of c.in-Some.spec.now) c.explain.new.sentence.items c.explain.result
    (c.in-Some.ensures ∙ ap (λ specs. slice_get (descriptions_of specs) c.args.index) c.deref.ensures.value) within c.index.ensures c.explain.ensures)

pub returns-in-None : goal.returns-in-None
returns-in-None c =
    let rack : EmbeddedRack = record { described = descriptions_of c.self.inside.specs.items; forgets = c.self.inside.forgets; lines = c.self.inside.lines.items; answer = c.self.inside.answer; text = c.self.inside.text } in
    subst (λ (r : EmbeddedRack). ExplainsLine r c.args.index c.args.place c.args.sentence.now.items (Err faults.NoLine) (slice_get r.lines c.args.index)) c.self.view_is
    (no_line_explained rack c.args.index c.args.place c.args.sentence.now.items (slice_get rack.lines c.args.index)
    (c.in-None.ensures ∙ ap (λ specs. slice_get (descriptions_of specs) c.args.index) c.deref.ensures.value))
