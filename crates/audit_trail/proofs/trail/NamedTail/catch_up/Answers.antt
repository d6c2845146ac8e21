use Rattle.audit_trail.proofs.Trailing.{name_kept}
use Rattle.audit_trail.proofs.trail.NamedTail.catch_up.Goals as goal

pub invariant_of-self : goal.invariant_of-self
invariant_of-self g c = record {
  one = name_kept g.J.Naming.trails c.args.self.now.tail.pass c.catch_up.new.self.pass c.catch_up.ensures.same.table c.catch_up.ensures.same.number c.catch_up.ensures.same.looks c.args.self.now.one;
}

pub new-requires-clause-one : goal.new-requires-clause-one
new-requires-clause-one g c = name_kept g.J.Naming.trails c.args.self.now.tail.pass c.catch_up.new.self.pass c.catch_up.ensures.same.table c.catch_up.ensures.same.number c.catch_up.ensures.same.looks c.args.self.now.one
