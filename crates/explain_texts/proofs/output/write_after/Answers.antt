use Rattle.std.proofs.Common.{[]}
use Rattle.explain_texts.proofs.Writing.{front_cut, then_leaves}
use Rattle.explain_texts.proofs.output.write_after.Goals as goal

pub returns-in-Ok : goal.returns-in-Ok
returns-in-Ok g c =
    let old = g.W.Write.contents c.args.writer.now in
    let now = g.W.Write.contents c.write_octets.new.writer in
    let octets = c.args.octets.now in (
      octets,
      then_leaves old now (g.W.Write.contents c.write_octets-in-Ok.new.writer) c.args.front.now octets c.write_octets-in-Ok.result
          c.in-Ok.ensures c.write_octets-in-Ok.ensures,
    )

pub returns-in-Err : goal.returns-in-Err
returns-in-Err g c =
    let old = g.W.Write.contents c.args.writer.now in
    let now = g.W.Write.contents c.write_octets.new.writer in
    ([], front_cut old now c.args.front.now [] c.in-Err.ensures)
