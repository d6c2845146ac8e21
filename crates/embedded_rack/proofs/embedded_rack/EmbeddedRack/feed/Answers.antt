use Rattle.std.proofs.Common.{◌==◌, ap, subst, ◌∙◌}
use Rattle.std.specs.Prelude.{position}
use Rattle.embedded_rack.specs.RackCalls.{EmbeddedRack, Called, fed, descriptions_of}
use Rattle.std.proofs.Common.{ℕ, ◌≡◌}
use Rattle.embedded_rack.proofs.Calls.{line_found, fed_is}
use Rattle.embedded_rack.proofs.embedded_rack.EmbeddedRack.feed.Goals as goal

pub returns-in-Some-clause-result : goal.returns-in-Some-clause-result
returns-in-Some-clause-result c =
    let rack : EmbeddedRack = record { described = descriptions_of c.self.inside.specs.items; forgets = c.self.inside.forgets; lines = c.self.inside.lines.items; answer = c.self.inside.answer; text = c.self.inside.text } in
    let at = line_found c.self.inside.lines.items c.args.line c.in-Some.index c.index_mut.result.now (c.in-Some.ensures.index ∙ ap (position (λ line. line.journal.number == c.args.line)) c.deref.ensures.value) c.index_mut.ensures.value in
    subst (λ (r : EmbeddedRack). c.feed.result ≡ (fed r c.args.line c.args.master c.args.octets.now).result) c.self.view_is
    (ap (λ (d : Called ℕ). d.result) (fed_is rack c.args.line c.in-Some.index c.index_mut.result.now c.args.master c.args.octets.now (record { line = c.feed.new.self; result = c.feed.result }) at c.feed.ensures))
