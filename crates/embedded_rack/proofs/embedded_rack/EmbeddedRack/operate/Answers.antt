use Rattle.std.proofs.Common.{◌==◌, ap, subst, ◌∙◌}
use Rattle.std.specs.Prelude.{position}
use Rattle.std.proofs.Common.{◌≡◌, set}
use Rattle.embedded_rack.specs.RackCalls.{EmbeddedRack, Called, operated, descriptions_of}
use Rattle.embedded_rack.proofs.Calls.{line_found, operated_is}
use Rattle.embedded_rack.proofs.embedded_rack.EmbeddedRack.operate.Goals as goal

pub returns-in-Some-clause-rack : goal.returns-in-Some-clause-rack
returns-in-Some-clause-rack c =
    let rack : EmbeddedRack = record { described = descriptions_of c.self.inside.specs.items; forgets = c.self.inside.forgets; lines = c.self.inside.lines.items; answer = c.self.inside.answer; text = c.self.inside.text } in
    let at = line_found c.self.inside.lines.items c.args.line c.in-Some.index c.index_mut.result.now (c.in-Some.ensures.index ∙ ap (position (λ line. line.journal.number == c.args.line)) c.deref.ensures.value) c.index_mut.ensures.value in
    subst (λ (r : EmbeddedRack). record { described = descriptions_of c.self.inside.specs.items; forgets = c.self.inside.forgets; lines = set c.self.inside.lines.items c.in-Some.index c.operate-obeyed.new.self; answer = c.self.inside.answer; text = c.operate-obeyed.new.text } ≡ (operated r c.args.line c.args.command.now).rack) c.self.view_is
    (ap (λ (d : Called (Unit {0})). d.rack) (operated_is rack c.args.line c.in-Some.index c.index_mut.result.now c.operate-obeyed.new.self c.operate-obeyed.new.text c.args.command.now c.operate-obeyed.result at c.operate-obeyed.ensures.done c.operate-obeyed.ensures.line_stays c.operate-obeyed.ensures.text_stays))

pub returns-in-Some-clause-result : goal.returns-in-Some-clause-result
returns-in-Some-clause-result c =
    let rack : EmbeddedRack = record { described = descriptions_of c.self.inside.specs.items; forgets = c.self.inside.forgets; lines = c.self.inside.lines.items; answer = c.self.inside.answer; text = c.self.inside.text } in
    let at = line_found c.self.inside.lines.items c.args.line c.in-Some.index c.index_mut.result.now (c.in-Some.ensures.index ∙ ap (position (λ line. line.journal.number == c.args.line)) c.deref.ensures.value) c.index_mut.ensures.value in
    subst (λ (r : EmbeddedRack). c.ok_or.result ≡ (operated r c.args.line c.args.command.now).result) c.self.view_is
    (c.ok_or.ensures.value ∙ ap (λ (d : Called (Unit {0})). d.result) (operated_is rack c.args.line c.in-Some.index c.index_mut.result.now c.operate-obeyed.new.self c.operate-obeyed.new.text c.args.command.now c.operate-obeyed.result at c.operate-obeyed.ensures.done c.operate-obeyed.ensures.line_stays c.operate-obeyed.ensures.text_stays))
