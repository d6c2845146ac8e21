use Rattle.std.proofs.Common.{map}
use Rattle.serve_lines.specs.MasterSessions.{place_at}
use Rattle.serve_rack.proofs.LinesServed.{served_not_at_all}
use Rattle.serve_rack.proofs.serving.serve_unrecorded.Goals as goal

pub returns-in-Err-clause-err : goal.returns-in-Err-clause-err
returns-in-Err-clause-err g c = λ folder endless.
    rw c.from.ensures (served_not_at_all folder endless c.args.listening.served.lines.now (map place_at c.args.listening.workers.ports.now) (g.W.Write.contents c.args.writer.now) (g.W.Write.contents c.serve_with_recorders-served.new.writer) c.in-Err.fault c.in-Err.ensures)
