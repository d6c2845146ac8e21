use Rattle.std.proofs.Common.{length}
use Rattle.dp_audit.proofs.Newest.{few_kept, newest_kept}
use Rattle.dp_audit.proofs.laws.the_newest_entries_are_kept.Goals as goal

pub returns-clause-kept : goal.returns-clause-kept
returns-clause-kept c = newest_kept

pub returns-clause-most : goal.returns-clause-most
returns-clause-most c room entries some = few_kept room (length entries) some
