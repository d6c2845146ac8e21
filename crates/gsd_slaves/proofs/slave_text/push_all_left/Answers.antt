use Rattle.gsd_slaves.specs.SlaveText.{left_rows}
use Rattle.gsd_slaves.proofs.Joins.{join_3}
use Rattle.gsd_slaves.proofs.slave_text.push_all_left.Goals as goal

pub returns : goal.returns
unfolding left_rows
returns c = join_3 _ _ _ _ _ _ _ c.push_left.ensures.text c.push_left-2.ensures.text c.push_left-3.ensures.text
