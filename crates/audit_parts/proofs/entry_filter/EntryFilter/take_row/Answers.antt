use Rattle.std.proofs.Common.{ℕ, List, [], Option, ap, refl, sym, subst, ◌∙◌}
use Rattle.std.specs.Io.{StopsAt}
use Rattle.dp_audit.specs.AuditText.{line_text}
use Rattle.dp_audit.specs.FirstWrong.{HasNoLf}
use Rattle.audit_parts.specs.Parts.{PartsView}
use Rattle.audit_parts.specs.Filtering.{text_given}
use Rattle.audit_parts.proofs.StillGiven.{all_given, end_taken, row_taken}
use Rattle.audit_parts.proofs.entry_filter.EntryFilter.take_row.Goals as goal

pub returns-in_default-clause-given : goal.returns-in_default-clause-given
returns-in_default-clause-given c = λ behind ends.
    end_taken c.args.self.now c.take_end.new.self behind c.requires.none
    (subst HasNoLf c.as_slice.ensures.value (c.in_default.ensures.no_lf (subst (λ (row : List ℕ). StopsAt row 10) (sym c.as_slice.ensures.value) c.requires.one)))
    ends c.take_end.ensures.given c.take_end.ensures.row

pub returns-in_default-clause-end : goal.returns-in_default-clause-end
returns-in_default-clause-end c = λ behind ends given none.
    all_given c.args.self.now c.take_end.new.self behind
    (subst HasNoLf c.as_slice.ensures.value (c.in_default.ensures.no_lf (subst (λ (row : List ℕ). StopsAt row 10) (sym c.as_slice.ensures.value) c.requires.one)))
    ends c.take_end.ensures.row c.take_end.ensures.end none

pub returns-in-Some-2-clause-given : goal.returns-in-Some-2-clause-given
returns-in-Some-2-clause-given c = λ behind ends.
    let front = c.in-Some.row.now in
    let text = sym c.as_slice.ensures.value ∙ c.in-Some.ensures.whole in
    row_taken c.args.self.now c.give.new.self front (text_given c.in-Some-2.kind (line_text front)) behind c.requires.none text
    (c.in-Some.ensures.no_lf (subst (λ (row : List ℕ). StopsAt row 10) (sym c.as_slice.ensures.value) c.requires.one))
    ((rw c.in-Some-2.is at c.in_ok-kind.ensures.some) ∙ ap (λ (k : Option PartsView). (text_given c.in-Some-2.kind (line_text front), k)) (sym c.give.ensures.check))
    (c.give.ensures.waiting ∙ ap (text_given c.in-Some-2.kind) text) c.give.ensures.row

pub returns-in-None-clause-given : goal.returns-in-None-clause-given
returns-in-None-clause-given c = λ behind ends.
    let front = c.in-Some.row.now in
    row_taken c.args.self.now
    (record { check = c.given_of.new.check; row = c.clear.new.self; last = c.args.self.now.last; kind = c.args.self.now.kind; given = c.args.self.now.given; answer = c.given_of.new.answer; buffer = c.given_of.new.buffer })
    front [] behind c.requires.none (sym c.as_slice.ensures.value ∙ c.in-Some.ensures.whole)
    (c.in-Some.ensures.no_lf (subst (λ (row : List ℕ). StopsAt row 10) (sym c.as_slice.ensures.value) c.requires.one))
    (c.in_ok-kind.ensures.none (rw c.in-None.is refl)) c.requires.none c.clear.ensures.items
