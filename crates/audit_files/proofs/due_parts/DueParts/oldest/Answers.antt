use Rattle.std.proofs.Common.{ℕ, List, slice_get, ap, sym, arith}
use Rattle.audit_files.proofs.Due.{none_is_due, some_are_due}
use Rattle.audit_files.proofs.due_parts.DueParts.oldest.Goals as goal

pub returns-then-self : goal.returns-then-self
returns-then-self c =
    sym (ap (λ (parts : List ℕ). slice_get parts 0) (some_are_due c.args.self.now.handed_over c.args.self.now.to_delete (omega (arith, c.if-self.true))))

pub returns-else-self : goal.returns-else-self
returns-else-self c =
    sym (ap (λ (parts : List ℕ). slice_get parts 0) (none_is_due c.args.self.now.handed_over c.args.self.now.to_delete (omega (arith, c.if-self.false))))
