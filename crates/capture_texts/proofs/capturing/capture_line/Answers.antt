use Rattle.std.proofs.Common.{IsUtf8, ap, subst, sym, ◌∙◌}
use Rattle.dp_line.specs.World.{description_of}
use Rattle.dp_audit.specs.Check.{checked}
use Rattle.dp_audit.proofs.Written.{none_written}
use Rattle.capture_texts.specs.Blocks.{capture_octets}
use Rattle.explain_texts.specs.Followed.{first_follower}
use Rattle.explain_texts.specs.TextRows.{octets_read}
use Rattle.explain_texts.proofs.ReadRows.{line_is}
use Rattle.capture_texts.specs.Captured.{captured_text}
use Rattle.capture_texts.proofs.Texts.{ends_so}
use Rattle.capture_texts.proofs.capturing.capture_line.Goals as goal

pub returns-in_default-clause-captured : goal.returns-in_default-clause-captured
returns-in_default-clause-captured g c =
    (none_written (g.W.Write.contents c.args.writer.now) _, λ text. c.in_default.ensures.cases.0 (subst IsUtf8 (sym c.row.ensures.row) text))

pub returns-in-Err-clause-captured : goal.returns-in-Err-clause-captured
returns-in-Err-clause-captured g c = none_written (g.W.Write.contents c.args.writer.now) _

pub capture_rows-requires-clause-opened : goal.capture_rows-requires-clause-opened
capture_rows-requires-clause-opened g c =
    c.in-Ok-open.ensures.follower
    ∙ ap (first_follower (description_of c.args.line.now)) (line_is c.in-Ok.header.now c.row.result.now c.args.rows.now.text.row c.in-Ok.ensures.cases.0 c.row.ensures.row c.row.ensures.no_lf)

pub returns-in-Ok-capture_rows-clause-captured : goal.returns-in-Ok-capture_rows-clause-captured
returns-in-Ok-capture_rows-clause-captured g c =
    let line = description_of c.args.line.now in
    let text = c.capture_rows.new.rows.text in
    let captured = rw c.in-Ok-open.ensures.interface at c.in-Ok-capture_rows.ensures.captured in
    ends_so c.in-Ok-capture_rows.verdict (checked line (octets_read text)) text.row (capture_octets (captured_text c.args.interface line (octets_read text))) (g.W.Write.contents c.args.writer.now) (g.W.Write.contents c.capture_rows.new.writer)
    c.end_text.result captured.0 captured.1 (rw c.row-in-Ok-capture_rows.ensures.row at c.end_text.ensures)
