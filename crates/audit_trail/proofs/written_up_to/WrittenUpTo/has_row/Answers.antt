use Rattle.std.proofs.Common.{◌∙◌}
use Rattle.audit_trail.proofs.Rows.{row_of}
use Rattle.audit_trail.proofs.written_up_to.WrittenUpTo.has_row.Goals as goal

pub returns-clause-row : goal.returns-clause-row
returns-clause-row g c = λ _.
    let tail = c.args.self.now.tail.value in
    row_of g.W.Write.contents g.J.Naming.trails tail.pass c.args.self.now.line c.args.line c.args.place c.args.self.now.seen tail.version tail.opened.value tail.writer
    c.args.self.now.one c.args.self.now.of_line c.if-self-line.false tail.places (tail.counted ∙ c.args.self.now.counted) c.if-self-place.false
    (tail.whole c.args.self.now.unbroken)
