use Rattle.std.proofs.Common.{◌≡◌, Ok, subst}
use Rattle.embedded_rack.specs.EmbeddedLines.{EmbeddedLine}
use Rattle.embedded_rack.specs.LineCalls.{line_requested}
use Rattle.embedded_rack.proofs.Calls.{frame_requested}
use Rattle.embedded_rack.proofs.embedded_line.EmbeddedLine.request.Goals as goal

pub returns-in-Some : goal.returns-in-Some
returns-in-Some c =
    subst (λ (line : EmbeddedLine). record { line = record { journal = c.take_frame_into.new.self; streams = c.self.inside.streams.items; driven = c.self.inside.driven.items }; answer = c.take_frame_into.new.answer; result = Ok tt } ≡ line_requested line c.args.master c.args.octets.now c.args.answer.now) c.self.view_is
    (frame_requested (record { journal = c.self.inside.book; streams = c.self.inside.streams.items; driven = c.self.inside.driven.items }) c.args.master c.args.octets.now c.in-Some.frame c.args.answer.now c.take_frame_into.new.self c.take_frame_into.new.answer c.in-Some.ensures c.take_frame_into.ensures.journal c.take_frame_into.ensures.answer)
