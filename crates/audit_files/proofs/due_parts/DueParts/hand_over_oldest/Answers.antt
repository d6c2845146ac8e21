use Rattle.std.proofs.Common.{ℕ, List, drop, ap, sym, arith, ◌∙◌}
use Rattle.audit_files.proofs.Due.{none_is_due, some_are_due}
use Rattle.audit_files.proofs.due_parts.DueParts.hand_over_oldest.Goals as goal

pub returns-then-self : goal.returns-then-self
returns-then-self c =
    sym (ap (λ (parts : List ℕ). drop 1 parts) (some_are_due c.args.self.now.handed_over c.args.self.now.to_delete (omega (arith, c.if-self.true))))

pub returns-else-self : goal.returns-else-self
returns-else-self c =
    let none = none_is_due c.args.self.now.handed_over c.args.self.now.to_delete (omega (arith, c.if-self.false)) in
    none ∙ sym (ap (λ (parts : List ℕ). drop 1 parts) none)
