use Rattle.std.proofs.Common.{◌==◌, ap, subst, ◌∙◌}
use Rattle.std.specs.Prelude.{position}
use Rattle.std.proofs.Common.{◌≡◌, set, Option}
use Rattle.embedded_rack.specs.declared.taken_piece.TakenPiece.{TakenPiece}
use Rattle.embedded_rack.specs.LineCalls.{line_next}
use Rattle.embedded_rack.specs.RackCalls.{EmbeddedRack, Called, next_piece, descriptions_of}
use Rattle.embedded_rack.proofs.Calls.{line_found, called_is}
use Rattle.embedded_rack.proofs.embedded_rack.EmbeddedRack.next.Goals as goal

pub returns-in-Some-clause-rack : goal.returns-in-Some-clause-rack
returns-in-Some-clause-rack c =
    let rack : EmbeddedRack = record { described = descriptions_of c.self.inside.specs.items; forgets = c.self.inside.forgets; lines = c.self.inside.lines.items; answer = c.self.inside.answer; text = c.self.inside.text } in
    let at = line_found c.self.inside.lines.items c.args.line c.in-Some.index c.index_mut.result.now (c.in-Some.ensures.index ∙ ap (position (λ line. line.journal.number == c.args.line)) c.deref.ensures.value) c.index_mut.ensures.value in
    subst (λ (r : EmbeddedRack). record { described = descriptions_of c.self.inside.specs.items; forgets = c.self.inside.forgets; lines = set c.self.inside.lines.items c.in-Some.index c.next.new.self; answer = c.next.new.answer; text = c.self.inside.text } ≡ (next_piece r c.args.line c.args.master).rack) c.self.view_is
    (ap (λ (d : Called (Option TakenPiece)). d.rack) (called_is rack c.args.line c.in-Some.index c.index_mut.result.now (λ l. line_next l c.args.master c.self.inside.answer) (record { line = c.next.new.self; answer = c.next.new.answer; result = c.next.result }) at c.next.ensures))

pub returns-in-Some-clause-result : goal.returns-in-Some-clause-result
returns-in-Some-clause-result c =
    let rack : EmbeddedRack = record { described = descriptions_of c.self.inside.specs.items; forgets = c.self.inside.forgets; lines = c.self.inside.lines.items; answer = c.self.inside.answer; text = c.self.inside.text } in
    let at = line_found c.self.inside.lines.items c.args.line c.in-Some.index c.index_mut.result.now (c.in-Some.ensures.index ∙ ap (position (λ line. line.journal.number == c.args.line)) c.deref.ensures.value) c.index_mut.ensures.value in
    subst (λ (r : EmbeddedRack). c.next.result ≡ (next_piece r c.args.line c.args.master).result) c.self.view_is
    (ap (λ (d : Called (Option TakenPiece)). d.result) (called_is rack c.args.line c.in-Some.index c.index_mut.result.now (λ l. line_next l c.args.master c.self.inside.answer) (record { line = c.next.new.self; answer = c.next.new.answer; result = c.next.result }) at c.next.ensures))
