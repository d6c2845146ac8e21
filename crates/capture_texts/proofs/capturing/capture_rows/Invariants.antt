use Rattle.std.proofs.Common.{◌≡◌, true, ◌-◌}
use Rattle.dp_line.specs.World.{description_of}
use Rattle.explain_texts.specs.TextRows.{octets_read}
use Rattle.explain_texts.proofs.ReadRows.{ReadSince}
use Rattle.capture_texts.proofs.Rows.{AreCaptured}
use Rattle.capture_texts.proofs.capturing.capture_rows.Given as goal

abbrev pub invariant-loop-rows : goal.invariant-loop-rows
invariant-loop-rows g l = record {
  right : AreCaptured l.fn.entries.interface (description_of l.line) (octets_read l.rows.text) l.entries.follower (g.W.Write.contents l.fn.writer) (g.W.Write.contents l.writer);
  same : l.entries.state.world ≡ l.entries.follower.known.context.world;
  interface : l.entries.interface ≡ l.fn.entries.interface;
  whole : l.rows.text.whole ≡ true;
  since : ReadSince (g.R.Read.remaining l.fn.rows.reader) l.fn.rows.text (g.R.Read.remaining l.rows.reader) l.rows.text;
}

abbrev pub decreases-loop-rows : goal.decreases-loop-rows
decreases-loop-rows g l = 4294967296 - l.entries.follower.known.context.world.count
