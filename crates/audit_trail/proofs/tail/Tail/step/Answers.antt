use Rattle.std.proofs.Common.{rules, ℕ, sym, subst, ◌∙◌}
use Rattle.audit_trail.specs.Trails.{IsWhole, parts_text}
use Rattle.audit_trail.proofs.Trailing.{after_cut, after_gone, after_nothing, after_row, after_aside, begun_of_whole, last_is_row}
use Rattle.audit_trail.proofs.tail.Tail.step.Goals as goal

pub invariant_of-self-in-Nothing : goal.invariant_of-self-in-Nothing
invariant_of-self-in-Nothing g c =
    let tail = after_nothing c.args.self.now.version c.write_next.new.pass.line c.args.self.now.seen c.in-Some-checked_add.place (g.W.Write.contents c.args.self.now.opened.value) (g.W.Write.contents c.args.self.now.writer) (g.W.Write.contents c.write_next.new.writer)
    c.args.self.now.pass.view c.write_next.new.pass.view c.in-Nothing.ensures.looks
    (c.args.self.now.places, c.args.self.now.counted, c.args.self.now.heads, subst (λ (k : ℕ). IsWhole (g.W.Write.contents c.args.self.now.opened.value) (g.W.Write.contents c.args.self.now.writer) (parts_text c.args.self.now.version k c.args.self.now.pass.view.looks)) (sym c.in-Nothing.ensures.line) (c.args.self.now.whole (search rules))) in
    record { ours = c.in-Nothing.ensures.ours ∙ c.args.self.now.ours; places = tail.0; counted = tail.1; heads = tail.2; begun = begun_of_whole _ _ _ tail.3; whole = λ _. tail.3 }

pub invariant_of-self-in-Row : goal.invariant_of-self-in-Row
invariant_of-self-in-Row g c =
    let tail = after_row c.args.self.now.version c.write_next.new.pass.line c.args.self.now.seen c.in-Some-checked_add.place (g.W.Write.contents c.args.self.now.opened.value) (g.W.Write.contents c.args.self.now.writer) (g.W.Write.contents c.write_next.new.writer)
    c.args.self.now.pass.view c.write_next.new.pass.view c.in-Row.ensures.looks c.in-Some-checked_add.ensures.1
    (c.args.self.now.places, c.args.self.now.counted, c.args.self.now.heads, subst (λ (k : ℕ). IsWhole (g.W.Write.contents c.args.self.now.opened.value) (g.W.Write.contents c.args.self.now.writer) (parts_text c.args.self.now.version k c.args.self.now.pass.view.looks)) (sym c.in-Row.ensures.line) (c.args.self.now.whole (search rules))) in
    record { ours = c.in-Row.ensures.ours ∙ c.args.self.now.ours; places = tail.0; counted = tail.1; heads = tail.2; begun = begun_of_whole _ _ _ tail.3; whole = λ _. tail.3 }

pub invariant_of-self-in-LastRow : goal.invariant_of-self-in-LastRow
invariant_of-self-in-LastRow g c =
    let tail = after_row c.args.self.now.version c.write_next.new.pass.line c.args.self.now.seen c.in-Some-checked_add.place (g.W.Write.contents c.args.self.now.opened.value) (g.W.Write.contents c.args.self.now.writer) (g.W.Write.contents c.write_next.new.writer)
    c.args.self.now.pass.view c.write_next.new.pass.view (last_is_row c.in-Some-checked_add.place (g.W.Write.contents c.args.self.now.writer) (g.W.Write.contents c.write_next.new.writer) c.args.self.now.pass.view c.write_next.new.pass.view c.in-LastRow.ensures.looks) c.in-Some-checked_add.ensures.1
    (c.args.self.now.places, c.args.self.now.counted, c.args.self.now.heads, subst (λ (k : ℕ). IsWhole (g.W.Write.contents c.args.self.now.opened.value) (g.W.Write.contents c.args.self.now.writer) (parts_text c.args.self.now.version k c.args.self.now.pass.view.looks)) (sym c.in-LastRow.ensures.line) (c.args.self.now.whole (search rules))) in
    record { ours = c.in-LastRow.ensures.ours ∙ c.args.self.now.ours; places = tail.0; counted = tail.1; heads = tail.2; begun = begun_of_whole _ _ _ tail.3; whole = λ _. tail.3 }

pub invariant_of-self-in-Cut : goal.invariant_of-self-in-Cut
invariant_of-self-in-Cut g c =
    let tail = after_cut c.args.self.now.version c.write_next.new.pass.line c.args.self.now.seen c.in-Some-checked_add.place (g.W.Write.contents c.args.self.now.opened.value) (g.W.Write.contents c.args.self.now.writer) (g.W.Write.contents c.write_next.new.writer)
    c.args.self.now.pass.view c.write_next.new.pass.view c.in-Cut.ensures.looks c.in-Some-checked_add.ensures.1
    (c.args.self.now.places, c.args.self.now.counted, c.args.self.now.heads, subst (λ (k : ℕ). IsWhole (g.W.Write.contents c.args.self.now.opened.value) (g.W.Write.contents c.args.self.now.writer) (parts_text c.args.self.now.version k c.args.self.now.pass.view.looks)) (sym c.in-Cut.ensures.line) (c.args.self.now.whole (search rules))) in
    record { ours = c.in-Cut.ensures.ours ∙ c.args.self.now.ours; places = tail.0; counted = tail.1; heads = tail.2; begun = tail.3; whole = λ e. absurd cc }

pub invariant_of-self-in-Gone : goal.invariant_of-self-in-Gone
invariant_of-self-in-Gone g c =
    let tail = after_gone c.args.self.now.version c.write_next.new.pass.line c.args.self.now.seen c.in-Some-checked_add.place (g.W.Write.contents c.args.self.now.opened.value) (g.W.Write.contents c.args.self.now.writer) (g.W.Write.contents c.write_next.new.writer)
    c.args.self.now.pass.view c.write_next.new.pass.view c.in-Gone.ensures.looks
    (c.args.self.now.places, c.args.self.now.counted, c.args.self.now.heads, subst (λ (k : ℕ). IsWhole (g.W.Write.contents c.args.self.now.opened.value) (g.W.Write.contents c.args.self.now.writer) (parts_text c.args.self.now.version k c.args.self.now.pass.view.looks)) (sym c.in-Gone.ensures.line) (c.args.self.now.whole (search rules))) in
    record { ours = c.in-Gone.ensures.ours ∙ c.args.self.now.ours; places = tail.0; counted = tail.1; heads = tail.2; begun = begun_of_whole _ _ _ tail.3; whole = λ _. tail.3 }

pub invariant_of-self : goal.invariant_of-self
invariant_of-self g c =
    let tail = after_aside c.args.self.now.version c.look_aside.new.pass.line c.args.self.now.seen (g.W.Write.contents c.args.self.now.opened.value) (g.W.Write.contents c.args.self.now.writer)
    c.args.self.now.pass.view c.look_aside.new.pass.view c.look_aside.ensures.looks
    (c.args.self.now.places, c.args.self.now.counted, c.args.self.now.heads, subst (λ (k : ℕ). IsWhole (g.W.Write.contents c.args.self.now.opened.value) (g.W.Write.contents c.args.self.now.writer) (parts_text c.args.self.now.version k c.args.self.now.pass.view.looks)) (sym c.look_aside.ensures.line) (c.args.self.now.whole (search rules))) in
    record { ours = c.look_aside.ensures.ours ∙ c.args.self.now.ours; places = tail.0; counted = tail.1; heads = tail.2; begun = begun_of_whole _ _ _ tail.3; whole = λ _. tail.3 }
