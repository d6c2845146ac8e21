use Rattle.std.proofs.Common.{◌≡◌, true, ◌-◌}
use Rattle.dp_line.specs.World.{description_of}
use Rattle.explain_texts.specs.TextRows.{octets_read}
use Rattle.explain_texts.proofs.CheckedRows.{IsLineAfter}
use Rattle.explain_texts.proofs.ReadRows.{ReadSince}
use Rattle.judge_texts.proofs.JudgedLines.{SoFar}
use Rattle.judge_texts.proofs.rows.judge_entries.Given as goal

abbrev pub invariant-loop-rows : goal.invariant-loop-rows
invariant-loop-rows g l = record {
  right : IsLineAfter (description_of l.line) (octets_read l.rows.text) l.state.world;
  judged : SoFar l.choice (description_of l.line) (octets_read l.rows.text) l.state.world l.judge (g.W.Write.contents l.fn.writer) (g.W.Write.contents l.writer);
  whole : l.rows.text.whole ≡ true;
  since : ReadSince (g.R.Read.remaining l.fn.rows.reader) l.fn.rows.text (g.R.Read.remaining l.rows.reader) l.rows.text;
}

abbrev pub decreases-loop-rows : goal.decreases-loop-rows
decreases-loop-rows g l = 4294967296 - l.state.world.count
