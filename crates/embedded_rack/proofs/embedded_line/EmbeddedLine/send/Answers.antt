use Rattle.std.proofs.Common.{◌==◌, ◌++◌, List, ℕ, Option, Err, set, take, ap, subst, ◌∙◌}
use Rattle.std.specs.Prelude.{position, option_and_then}
use Rattle.embedded_rack.specs.EmbeddedLines.{EmbeddedLine, sent}
use Rattle.dp_text.specs.Words.{words_of}
use Rattle.dp_text.specs.HexWords.{octets_of_words}
use Rattle.embedded_rack.specs.declared.obey_fault.ObeyFault.TheVariants as stops
use Rattle.embedded_rack.specs.Sends.{Sends}
use Rattle.embedded_rack.proofs.Sending.{found, sends, unsent}
use Rattle.embedded_rack.proofs.embedded_line.EmbeddedLine.send.Goals as goal

pub returns-in_default : goal.returns-in_default
returns-in_default g c =
    subst (λ (line : EmbeddedLine). Sends (option_and_then (sent line c.args.master) (octets_of_words (words_of c.args.digits.now))) line (g.W.Write.contents c.args.writer.now) (g.W.Write.contents c.args.writer.now) (Err stops.NoCommand)) c.self.view_is
    (unsent c.self.inside.book c.self.inside.streams.items c.self.inside.driven.items c.args.master (octets_of_words (words_of c.args.digits.now)) (g.W.Write.contents c.args.writer.now)
    (c.in_default.ensures ∙ ap (position (λ stream. stream.master == c.args.master)) c.deref.ensures.value))

pub returns : goal.returns
returns g c =
    let streams = c.self.inside.streams.items in
    let octets : List ℕ = take c.in-Some-of_into.decoded c.of_into.new.octets ++ c.in-Some-of_into.octets in
    let at = found streams c.args.master c.in-Some.index c.index_mut-stream.result.now (c.in-Some.ensures ∙ ap (position (λ stream. stream.master == c.args.master)) c.deref.ensures.value) c.index_mut-stream.ensures.value in
    subst (λ (read : Option (List ℕ)). Sends (option_and_then (sent c.args.self.now c.args.master) read) (record { journal = c.pass_words.new.book; streams = set streams c.in-Some.index c.pass_words.new.self; driven = c.self.inside.driven.items })
    (g.W.Write.contents c.args.writer.now) (g.W.Write.contents c.pass_words.new.writer) c.pass_words.result) c.in-Some-of_into.ensures.read
    (subst (λ (line : EmbeddedLine). Sends (sent line c.args.master octets) (record { journal = c.pass_words.new.book; streams = set streams c.in-Some.index c.pass_words.new.self; driven = c.self.inside.driven.items })
    (g.W.Write.contents c.args.writer.now) (g.W.Write.contents c.pass_words.new.writer) c.pass_words.result) c.self.view_is
    (sends c.self.inside.book c.pass_words.new.book streams c.self.inside.driven.items c.args.master c.in-Some.index octets c.index_mut-stream.result.now c.pass_words.new.self
    (g.W.Write.contents c.args.writer.now) (g.W.Write.contents c.pass_words.new.writer) c.pass_words.result at
    c.pass_words.ensures.journal c.pass_words.ensures.stream c.pass_words.ensures.ok c.pass_words.ensures.err c.pass_words.ensures.fault))
