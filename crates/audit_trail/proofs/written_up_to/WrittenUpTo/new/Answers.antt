use Rattle.std.proofs.Common.{ap, sym, subst, ◌∙◌}
use Rattle.std.proofs.lemmas.Grind.{merely}
use Rattle.audit_trail.specs.Named.{IsOneOf}
use Rattle.audit_trail.specs.Trails.{SawAll}
use Rattle.audit_trail.proofs.written_up_to.WrittenUpTo.new.Goals as goal

pub invariant_of-result : goal.invariant_of-result
invariant_of-result g c = record {
  one = subst (λ t. IsOneOf g.J.Naming.trails t.pass) (sym c.of.ensures) c.requires.one;
  unbroken = ap (λ t. t.broken) c.of.ensures ∙ c.requires.unbroken;
  of_line = ap (λ t. t.pass.line) c.of.ensures ∙ sym c.line.ensures;
  counted = ap (λ t. t.seen) c.of.ensures;
  all = merely (subst (λ t. SawAll t.pass.view.looks c.args.tail.now.seen) (sym c.of.ensures) c.requires.all);
}
