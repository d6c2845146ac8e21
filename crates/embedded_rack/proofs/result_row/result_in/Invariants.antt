use Rattle.std.proofs.Common.{◌≡◌, length}
use Rattle.dp_text.specs.Words.{lines_of}
use Rattle.embedded_rack.specs.EntryReasons.{first_result}
use Rattle.embedded_rack.proofs.result_row.result_in.Given as goal

abbrev pub invariant-loop-row : goal.invariant-loop-row
invariant-loop-row l = first_result l.lines ≡ first_result (lines_of l.rows)

abbrev pub decreases-loop-row : goal.decreases-loop-row
decreases-loop-row l = length l.lines
