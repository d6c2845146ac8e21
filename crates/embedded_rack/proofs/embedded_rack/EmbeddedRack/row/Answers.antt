use Rattle.std.proofs.Common.{◌==◌, ap, subst, ◌∙◌}
use Rattle.std.specs.Prelude.{position}
use Rattle.std.proofs.Common.{◌≡◌}
use Rattle.embedded_rack.specs.RackCalls.{EmbeddedRack, Called, rowed, descriptions_of}
use Rattle.embedded_rack.proofs.Calls.{line_found, rowed_is}
use Rattle.embedded_rack.proofs.embedded_rack.EmbeddedRack.row.Goals as goal

pub returns-in-Some-clause-rack : goal.returns-in-Some-clause-rack
returns-in-Some-clause-rack c =
    let rack : EmbeddedRack = record { described = descriptions_of c.self.inside.specs.items; forgets = c.self.inside.forgets; lines = c.self.inside.lines.items; answer = c.self.inside.answer; text = c.self.inside.text } in
    let at = line_found c.self.inside.lines.items c.args.line c.in-Some.index c.index.result.now (c.in-Some.ensures.index ∙ ap (position (λ line. line.journal.number == c.args.line)) c.deref.ensures.value) c.index.ensures in
    subst (λ (r : EmbeddedRack). record { described = descriptions_of c.self.inside.specs.items; forgets = c.self.inside.forgets; lines = c.self.inside.lines.items; answer = c.self.inside.answer; text = c.row-found.new.text } ≡ (rowed r c.args.line c.args.place).rack) c.self.view_is
    (ap (λ (d : Called (Unit {0})). d.rack) (rowed_is rack c.args.line c.in-Some.index c.index.result.now c.args.place c.row-found.result c.row-found.new.text at c.row-found.ensures))

pub returns-in-Some-clause-result : goal.returns-in-Some-clause-result
returns-in-Some-clause-result c =
    let rack : EmbeddedRack = record { described = descriptions_of c.self.inside.specs.items; forgets = c.self.inside.forgets; lines = c.self.inside.lines.items; answer = c.self.inside.answer; text = c.self.inside.text } in
    let at = line_found c.self.inside.lines.items c.args.line c.in-Some.index c.index.result.now (c.in-Some.ensures.index ∙ ap (position (λ line. line.journal.number == c.args.line)) c.deref.ensures.value) c.index.ensures in
    subst (λ (r : EmbeddedRack). c.row_result.result ≡ (rowed r c.args.line c.args.place).result) c.self.view_is
    (c.row_result.ensures ∙ ap (λ (d : Called (Unit {0})). d.result) (rowed_is rack c.args.line c.in-Some.index c.index.result.now c.args.place c.row-found.result c.row-found.new.text at c.row-found.ensures))
