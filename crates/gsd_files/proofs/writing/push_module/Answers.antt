use Rattle.gsd_files.specs.GsdText.{module_text}
use Rattle.gsd_files.proofs.Joins.{join_7}
use Rattle.gsd_files.proofs.writing.push_module.Goals as goal

pub returns : goal.returns
unfolding module_text
returns c =
    let number = rw c.from.ensures at c.in_ok-push_decimal.ensures in
    join_7 _ _ _ _ _ _ _ _ _ _ _ _ _ _ _ c.in_ok-push.ensures c.in_ok-push-2.ensures c.in_ok-push-3.ensures c.in_ok-push_octets.ensures
    c.in_ok-push-4.ensures number c.in_ok-push-5.ensures
