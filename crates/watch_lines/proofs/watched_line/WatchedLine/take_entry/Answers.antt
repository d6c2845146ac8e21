use Rattle.std.proofs.Common.{ℕ, Vec, Global, ap, ◌∙◌}
use Rattle.watch_lines.proofs.EntryLine.{keeps_entry}
use Rattle.watch_lines.proofs.watched_line.WatchedLine.take_entry.Goals as goal

pub returns-in-Ok-clause-kept : goal.returns-in-Ok-clause-kept
returns-in-Ok-clause-kept c = rw (← c.self.view_is)
    (keeps_entry (λ entry. entry.writer.items) c.self.inside.follower c.args.row.now c.new-entry.result c.take_row.new.receiver c.in-Ok.field-0 c.args.number c.into_writer.result.items c.self.inside.kept c.keep_entry.new.self.kept c.keep_entry.result
    (ap (λ (writer : Vec ℕ Global). writer.items) c.new-entry.ensures ∙ c.new.ensures.items) c.in-Ok.ensures.reported (ap (λ (writer : Vec ℕ Global). writer.items) c.into_writer.ensures) c.keep_entry.ensures.kept)
