use Rattle.std.proofs.Common.{◌≡◌, []}
use Rattle.std.specs.Io.KnownBytes.{Keeps}
use Rattle.audit_parts.specs.Filtering.{still_given, waiting_of}
use Rattle.audit_parts.proofs.entry_rows.EntryRows.next_row.Given as goal

abbrev pub invariant-loop : goal.invariant-loop
invariant-loop g l = record {
  none : waiting_of l.self.filter ≡ [];
  opened : l.self.opened ≡ l.fn.self.opened;
  kept : Keeps (still_given (g.R.Read.remaining l.fn.self.opened.value) l.fn.self.filter (g.R.Read.remaining l.fn.self.reader)) (still_given (g.R.Read.remaining l.fn.self.opened.value) l.self.filter (g.R.Read.remaining l.self.reader));
}
