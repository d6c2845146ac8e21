use Rattle.explain_texts.proofs.Reading.{reads_on, reads_piece, reads_to_end, stops}
use Rattle.explain_texts.proofs.row_buffer.RowBuffer.read_on.Goals as goal
use Rattle.explain_texts.proofs.row_buffer.RowBuffer.read_on.Goals.{in-Ok, in-Err}

pub invariant_of-self : goal.invariant_of-self
invariant_of-self g c = c.take_lf-self-inside.ensures.no_lf (stops c.self.inside.row.items c.read_until-read.new.buf.items c.self.invariant c.read_until-read.ensures.appends c.read_until-read.ensures.stops)

pub returns-clause-reads : goal.returns-clause-reads
returns-clause-reads g c =
    reads_on _ c.self.inside.row.items c.read_until-read.new.buf.items c.take_lf-self-inside.new.row.items c.self.inside.whole c.take_lf-self-inside.result _ _ c.args.self.now c.self.view_is c.requires
    (record {
      starts = c.read_until-read.ensures.appends;
      none_lost = c.read_until-read.ensures.none_lost;
      taken = c.take_lf-self-inside.ensures.taken;
      no_lf = c.take_lf-self-inside.ensures.no_lf (stops c.self.inside.row.items c.read_until-read.new.buf.items c.self.invariant c.read_until-read.ensures.appends c.read_until-read.ensures.stops);
    })

pub returns-clause-piece : goal.returns-clause-piece
returns-clause-piece g c =
    let piece = reads_piece c.read_until-read.result _ c.self.inside.row.items c.read_until-read.new.buf.items c.take_lf-self-inside.new.row.items c.self.inside.whole c.take_lf-self-inside.result _ _ c.args.self.now c.self.view_is c.requires
    c.take_lf-self-inside.ensures.taken c.read_until-read.ensures.bytes c.read_until-read.ensures.rest in
    elim c.match-read.branch [ in-Ok w ↦ rw w.result-is (rw w.in-Ok.is at piece) | in-Err w ↦ rw w.result-is tt ]

pub returns-clause-end : goal.returns-clause-end
returns-clause-end g c =
    let none = c.take_lf-self-inside.ensures.no_lf (stops c.self.inside.row.items c.read_until-read.new.buf.items c.self.invariant c.read_until-read.ensures.appends c.read_until-read.ensures.stops) in
    let end = reads_to_end c.read_until-read.result c.self.inside.row.items c.read_until-read.new.buf.items c.take_lf-self-inside.new.row.items c.take_lf-self-inside.result _ _
    c.take_lf-self-inside.ensures.taken none c.read_until-read.ensures.bytes c.read_until-read.ensures.rest in
    elim c.match-read.branch [ in-Ok w ↦ rw w.result-is (rw w.in-Ok.is at end) | in-Err w ↦ rw w.result-is tt ]
