use Rattle.std.proofs.Common.{refl, rules}
use Rattle.audit_parts.proofs.Filtering.{no_lf_from}
use Rattle.audit_parts.proofs.entry_filter.without_lf.Goals as goal

pub returns-else-last-eq10-clause-no_lf : goal.returns-else-last-eq10-clause-no_lf
returns-else-last-eq10-clause-no_lf c = λ stopped.
    no_lf_from c.args.row.now c.split_at.result.1.now _ stopped c.if-count-eq0.false (search rules) c.split_at.ensures.back
    (λ rest is. c.if-last-eq10.false (rw is refl))
