use Rattle.std.proofs.Common.{◌≡◌, ◌++◌, length}
use Rattle.std.specs.List.{flat_map}
use Rattle.capture_texts.specs.Comments.{result_in_row}
use Rattle.capture_texts.proofs.comments.push_results.Given as goal

abbrev pub invariant-loop-row : goal.invariant-loop-row
invariant-loop-row l = l.comment.items ++ flat_map result_in_row l.rows ≡ l.initial.comment.items ++ flat_map result_in_row l.initial.rows

abbrev pub decreases-loop-row : goal.decreases-loop-row
decreases-loop-row l = length l.rows
