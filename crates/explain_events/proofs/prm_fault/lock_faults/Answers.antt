use Rattle.std.proofs.Common.{append_assoc, rules}
use Rattle.explain_events.proofs.prm_fault.lock_faults.Goals as goal

pub returns : goal.returns
returns c =
    rw (c.push_where-5.ensures.faults, c.push_where-4.ensures.faults, c.push_where-3.ensures.faults, c.push_where-2.ensures.faults, c.push_where.ensures.faults)
    (simp append_assoc (search rules))
