use Rattle.std.proofs.Common.{ℕ, List, refl, inl, inr, subst}
use Rattle.std.specs.Io.KnownBytes.{Appends}
use Rattle.dp_text.specs.Writes.{WritesPrefix}
use Rattle.dp_sessions.proofs.Operating.{on_failed, on_ok}
use Rattle.dp_sessions.proofs.Recording.{none_prefix}
use Rattle.dp_sessions.proofs.operator.OperatorSession.end_line.Goals as goal

pub returns-in_default-clause-err : goal.returns-in_default-clause-err
returns-in_default-clause-err g c = record {
  written = none_prefix (g.W.Write.contents c.args.writer.now) c.answer_line-recorded.new.text;
  recorded = inr (c.in_default.ensures.unrecorded, refl);
}

pub returns-clause-ok : goal.returns-clause-ok
returns-clause-ok g c =
    on_ok c.write_whole.result
    (λ (whole : Appends (g.W.Write.contents c.args.writer.now) (g.W.Write.contents c.write_whole.new.writer) c.as_bytes.result.now). record {
      written = subst (λ (text : List ℕ). Appends (g.W.Write.contents c.args.writer.now) (g.W.Write.contents c.write_whole.new.writer) text) c.as_bytes.ensures whole;
      recorded = c.in-Ok.ensures.recorded;
    })
    c.write_whole.ensures.ok

pub returns-clause-err : goal.returns-clause-err
returns-clause-err g c =
    on_failed c.write_whole.result
    (λ (part : WritesPrefix (g.W.Write.contents c.args.writer.now) (g.W.Write.contents c.write_whole.new.writer) c.as_bytes.result.now). record {
      written = subst (λ (text : List ℕ). WritesPrefix (g.W.Write.contents c.args.writer.now) (g.W.Write.contents c.write_whole.new.writer) text) c.as_bytes.ensures part;
      recorded = inl c.in-Ok.ensures.recorded;
    })
    c.write_whole.ensures.err
