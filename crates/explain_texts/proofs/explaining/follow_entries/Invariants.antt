use Rattle.std.proofs.Common.{◌≡◌, true, ◌-◌}
use Rattle.explain_texts.specs.Entries.{is_between_rows}
use Rattle.explain_texts.specs.TextRows.{octets_read}
use Rattle.explain_texts.proofs.FollowedRows.{AreFollowed}
use Rattle.explain_texts.proofs.ReadRows.{ReadSince}
use Rattle.explain_texts.proofs.explaining.follow_entries.Given as goal

abbrev pub invariant-loop-rows : goal.invariant-loop-rows
invariant-loop-rows g l = record {
  right : AreFollowed g.T.TakesEntries.takes l.choice l.fn.follower (octets_read l.fn.rows.text) (octets_read l.rows.text) l.follower l.fn.ended l.ended l.fn.receiver l.receiver;
  between : is_between_rows l.rows.text ≡ true;
  since : ReadSince (g.R.Read.remaining l.fn.rows.reader) l.fn.rows.text (g.R.Read.remaining l.rows.reader) l.rows.text;
}

abbrev pub decreases-loop-rows : goal.decreases-loop-rows
decreases-loop-rows g l = 4294967296 - l.follower.known.context.world.count
