use Rattle.std.proofs.Common.{ℕ, sym, subst, ◌∙◌}
use Rattle.audit_trail.specs.Trails.{IsWhole, PartOutcome, parts_text}
use Rattle.audit_trail.specs.declared.row.NextPart.TheVariants as parts
use Rattle.audit_trail.proofs.Trailing.{after_begun, after_cut_head, after_not_due, after_not_yet, begun_of_whole}
use Rattle.audit_trail.proofs.tail.Tail.begin_part.Goals as goal

pub invariant_of-self : goal.invariant_of-self
invariant_of-self g c =
    let tail = after_not_due c.args.self.now.version c.begin_next_part.new.pass.line c.args.self.now.seen (g.W.Write.contents c.args.self.now.opened.value) (g.W.Write.contents c.args.self.now.writer) (g.W.Write.contents c.begin_next_part.new.writer)
    c.args.self.now.pass.view c.begin_next_part.new.pass.view (subst (λ (k : ℕ). PartOutcome parts.NotDue k c.args.self.now.seen c.args.self.now.pass.view c.begin_next_part.new.pass.view (g.W.Write.contents c.args.self.now.writer) (g.W.Write.contents c.begin_next_part.new.writer)) (sym c.in-NotDue.ensures.line) c.in-NotDue.ensures.part)
    (c.args.self.now.places, c.args.self.now.counted, c.args.self.now.heads, subst (λ (k : ℕ). IsWhole (g.W.Write.contents c.args.self.now.opened.value) (g.W.Write.contents c.args.self.now.writer) (parts_text c.args.self.now.version k c.args.self.now.pass.view.looks)) (sym c.in-NotDue.ensures.line) (c.args.self.now.whole c.requires.unbroken)) in
    record { ours = c.in-NotDue.ensures.ours ∙ c.args.self.now.ours; places = tail.0; counted = tail.1; heads = tail.2; begun = begun_of_whole _ _ _ tail.3; whole = λ _. tail.3 }

pub invariant_of-self-in-NoMemory : goal.invariant_of-self-in-NoMemory
invariant_of-self-in-NoMemory g c =
    let tail = after_not_due c.args.self.now.version c.begin_next_part.new.pass.line c.args.self.now.seen (g.W.Write.contents c.args.self.now.opened.value) (g.W.Write.contents c.args.self.now.writer) (g.W.Write.contents c.begin_next_part.new.writer)
    c.args.self.now.pass.view c.begin_next_part.new.pass.view (subst (λ (k : ℕ). PartOutcome parts.NoMemory k c.args.self.now.seen c.args.self.now.pass.view c.begin_next_part.new.pass.view (g.W.Write.contents c.args.self.now.writer) (g.W.Write.contents c.begin_next_part.new.writer)) (sym c.in-NoMemory.ensures.line) c.in-NoMemory.ensures.part)
    (c.args.self.now.places, c.args.self.now.counted, c.args.self.now.heads, subst (λ (k : ℕ). IsWhole (g.W.Write.contents c.args.self.now.opened.value) (g.W.Write.contents c.args.self.now.writer) (parts_text c.args.self.now.version k c.args.self.now.pass.view.looks)) (sym c.in-NoMemory.ensures.line) (c.args.self.now.whole c.requires.unbroken)) in
    record { ours = c.in-NoMemory.ensures.ours ∙ c.args.self.now.ours; places = tail.0; counted = tail.1; heads = tail.2; begun = begun_of_whole _ _ _ tail.3; whole = λ _. tail.3 }

pub invariant_of-self-in-NotYet : goal.invariant_of-self-in-NotYet
invariant_of-self-in-NotYet g c =
    let tail = after_not_yet c.args.self.now.version c.begin_next_part.new.pass.line c.args.self.now.seen (g.W.Write.contents c.args.self.now.opened.value) (g.W.Write.contents c.args.self.now.writer) (g.W.Write.contents c.begin_next_part.new.writer)
    c.args.self.now.pass.view c.begin_next_part.new.pass.view (subst (λ (k : ℕ). PartOutcome parts.NotYet k c.args.self.now.seen c.args.self.now.pass.view c.begin_next_part.new.pass.view (g.W.Write.contents c.args.self.now.writer) (g.W.Write.contents c.begin_next_part.new.writer)) (sym c.in-NotYet.ensures.line) c.in-NotYet.ensures.part)
    (c.args.self.now.places, c.args.self.now.counted, c.args.self.now.heads, subst (λ (k : ℕ). IsWhole (g.W.Write.contents c.args.self.now.opened.value) (g.W.Write.contents c.args.self.now.writer) (parts_text c.args.self.now.version k c.args.self.now.pass.view.looks)) (sym c.in-NotYet.ensures.line) (c.args.self.now.whole c.requires.unbroken)) in
    record { ours = c.in-NotYet.ensures.ours ∙ c.args.self.now.ours; places = tail.0; counted = tail.1; heads = tail.2; begun = begun_of_whole _ _ _ tail.3; whole = λ _. tail.3 }

pub invariant_of-self-in-Begun : goal.invariant_of-self-in-Begun
invariant_of-self-in-Begun g c =
    let tail = after_begun c.args.self.now.version c.begin_next_part.new.pass.line c.args.self.now.seen (g.W.Write.contents c.args.self.now.opened.value) (g.W.Write.contents c.args.self.now.writer) (g.W.Write.contents c.begin_next_part.new.writer)
    c.args.self.now.pass.view c.begin_next_part.new.pass.view (subst (λ (k : ℕ). PartOutcome parts.Begun k c.args.self.now.seen c.args.self.now.pass.view c.begin_next_part.new.pass.view (g.W.Write.contents c.args.self.now.writer) (g.W.Write.contents c.begin_next_part.new.writer)) (sym c.in-Begun.ensures.line) c.in-Begun.ensures.part)
    (c.args.self.now.places, c.args.self.now.counted, c.args.self.now.heads, subst (λ (k : ℕ). IsWhole (g.W.Write.contents c.args.self.now.opened.value) (g.W.Write.contents c.args.self.now.writer) (parts_text c.args.self.now.version k c.args.self.now.pass.view.looks)) (sym c.in-Begun.ensures.line) (c.args.self.now.whole c.requires.unbroken)) in
    record { ours = c.in-Begun.ensures.ours ∙ c.args.self.now.ours; places = tail.0; counted = tail.1; heads = tail.2; begun = begun_of_whole _ _ _ tail.3; whole = λ _. tail.3 }

pub invariant_of-self-in-Cut : goal.invariant_of-self-in-Cut
invariant_of-self-in-Cut g c =
    let tail = after_cut_head c.args.self.now.version c.begin_next_part.new.pass.line c.args.self.now.seen (g.W.Write.contents c.args.self.now.opened.value) (g.W.Write.contents c.args.self.now.writer) (g.W.Write.contents c.begin_next_part.new.writer)
    c.args.self.now.pass.view c.begin_next_part.new.pass.view (subst (λ (k : ℕ). PartOutcome parts.Cut k c.args.self.now.seen c.args.self.now.pass.view c.begin_next_part.new.pass.view (g.W.Write.contents c.args.self.now.writer) (g.W.Write.contents c.begin_next_part.new.writer)) (sym c.in-Cut.ensures.line) c.in-Cut.ensures.part)
    (c.args.self.now.places, c.args.self.now.counted, c.args.self.now.heads, subst (λ (k : ℕ). IsWhole (g.W.Write.contents c.args.self.now.opened.value) (g.W.Write.contents c.args.self.now.writer) (parts_text c.args.self.now.version k c.args.self.now.pass.view.looks)) (sym c.in-Cut.ensures.line) (c.args.self.now.whole c.requires.unbroken)) in
    record { ours = c.in-Cut.ensures.ours ∙ c.args.self.now.ours; places = tail.0; counted = tail.1; heads = tail.2; begun = tail.3; whole = λ e. absurd cc }
