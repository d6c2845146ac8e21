use Rattle.std.proofs.Common.{◌==◌, ◌≡◌, Ok, set, ap, subst, ◌∙◌}
use Rattle.std.specs.Prelude.{position}
use Rattle.embedded_rack.specs.EmbeddedLines.{EmbeddedLine}
use Rattle.embedded_rack.specs.LineCalls.{StreamNext, line_next}
use Rattle.embedded_rack.proofs.Sending.{found}
use Rattle.embedded_rack.proofs.Calls.{next_found, next_is}
use Rattle.embedded_rack.proofs.embedded_line.EmbeddedLine.next.Goals as goal

pub returns-in-Some : goal.returns-in-Some
returns-in-Some c =
    let streams = c.self.inside.streams.items in
    let stream = c.index_mut.result.now in
    let at = found streams c.args.master c.in-Some.index stream (c.in-Some.ensures ∙ ap (position (λ stream. stream.master == c.args.master)) c.deref.ensures.value) c.index_mut.ensures.value in
    let done : StreamNext = record { journal = c.next.new.book; stream = c.next.new.self; answer = c.next.new.answer; piece = c.next.result } in
    subst (λ (line : EmbeddedLine). record { line = record { journal = c.next.new.book; streams = set streams c.in-Some.index c.next.new.self; driven = c.self.inside.driven.items }; answer = c.next.new.answer; result = Ok c.next.result } ≡ line_next line c.args.master c.args.answer.now) c.self.view_is
    (next_found c.self.inside.book streams c.self.inside.driven.items c.args.master c.in-Some.index stream c.args.answer.now done at
    (next_is c.self.inside.book stream c.args.answer.now done c.next.ensures.journal c.next.ensures.stream c.next.ensures.answer c.next.ensures.piece))
