use Rattle.gsd_files.specs.GsdText.{sizes_text}
use Rattle.gsd_files.proofs.Joins.{join_4}
use Rattle.gsd_files.proofs.writing.push_sizes.Goals as goal

pub returns : goal.returns
unfolding sizes_text
returns c =
    join_4 _ _ _ _ _ _ _ _ _ c.in_ok-push_number.ensures c.in_ok-push_number-2.ensures c.in_ok-push_number-3.ensures c.in_ok-push_number-4.ensures
