use Rattle.std.proofs.Common.{◌≡◌, ℕ, subst, sym, ◌∙◌}
use Rattle.audit_trail.specs.Trails.{EndsWithPart}
use Rattle.audit_trail.proofs.PartEnds.{part_ends, step_no_head, step_sees_all, unbroken, waits_no_head}
use Rattle.audit_trail.proofs.tail.Tail.advance.Goals as goal

pub returns-then-branch-clause-no_part : goal.returns-then-branch-clause-no_part
returns-then-branch-clause-no_part g c = λ _.
    let contents = g.W.Write.contents in
    let first = c.args.self.now in
    let middle = c.step.new.self in
    step_no_head c.step.result c.in_ok-step.field-0 first.seen middle.seen first.pass.view middle.pass.view (contents first.writer) (contents middle.writer)
    (c.step.ensures.steps (unbroken first.broken c.step.result c.in_ok-step.field-0 (middle ≡ first) c.step.ensures.broken c.in_ok-step.was)) c.in_ok-step.was

pub returns-clause-part : goal.returns-clause-part
returns-clause-part g c = λ is.
    let contents = g.W.Write.contents in
    let due = g.W.WriteParts.due in
    let first = c.args.self.now in
    let middle = c.step.new.self in
    let last = c.begin_part.new.self in
    let steps = c.step.ensures.steps (unbroken first.broken c.step.result c.in_ok-step.field-0 (middle ≡ first) c.step.ensures.broken c.in_ok-step.was) in
    let none = step_no_head c.step.result c.in_ok-step.field-0 first.seen middle.seen first.pass.view middle.pass.view (contents first.writer) (contents middle.writer) steps c.in_ok-step.was in
    let all = step_sees_all c.step.result first.seen middle.seen first.pass.view middle.pass.view (contents first.writer) (contents middle.writer) steps (rw c.if-branch.false at c.in_ok-step.was) in
    subst (λ (seen : ℕ). EndsWithPart due contents first.pass.line seen first.pass.view last.pass.view last.writer) (sym c.begin_part.ensures.seen)
    (subst (λ (number : ℕ). EndsWithPart due contents number middle.seen first.pass.view last.pass.view last.writer) c.step.ensures.same.number
    (part_ends due contents c.begin_part.result middle.pass.line middle.seen first.pass.view middle.pass.view last.pass.view middle.writer last.writer none all c.begin_part.ensures.part is))

pub returns-clause-no_part : goal.returns-clause-no_part
returns-clause-no_part g c = λ is.
    let contents = g.W.Write.contents in
    let first = c.args.self.now in
    let middle = c.step.new.self in
    let last = c.begin_part.new.self in
    let steps = c.step.ensures.steps (unbroken first.broken c.step.result c.in_ok-step.field-0 (middle ≡ first) c.step.ensures.broken c.in_ok-step.was) in
    waits_no_head c.begin_part.result (g.W.WriteParts.due middle.writer) middle.pass.line middle.seen middle.pass.view last.pass.view (contents middle.writer) (contents last.writer) c.begin_part.ensures.part is
    ∙ step_no_head c.step.result c.in_ok-step.field-0 first.seen middle.seen first.pass.view middle.pass.view (contents first.writer) (contents middle.writer) steps c.in_ok-step.was
