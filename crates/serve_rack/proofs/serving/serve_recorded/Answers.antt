use Rattle.std.proofs.Common.{Some, map}
use Rattle.audit_trail.specs.Named.{name_of}
use Rattle.serve_sessions.specs.Recordings.{paths_of}
use Rattle.serve_lines.specs.ServedLines.{line_numbers}
use Rattle.serve_sessions.proofs.Recording.{incomplete_in}
use Rattle.serve_lines.specs.MasterSessions.{place_at}
use Rattle.serve_rack.proofs.LinesServed.{served_not_at_all, served_unopened}
use Rattle.serve_sessions.proofs.Naming.{each_gives}
use Rattle.serve_rack.proofs.serving.serve_recorded.Goals as goal

pub serve_named-served-requires-clause-named : goal.serve_named-served-requires-clause-named
serve_named-served-requires-clause-named g c κs within = each_gives (λ recorder. name_of recorder.file.trail.pass) c.in-Ok.recorders.items

pub returns-in-Err-clause-err : goal.returns-in-Err-clause-err
returns-in-Err-clause-err g c = λ endless.
    rw c.from.ensures (served_unopened (Some c.args.folder) endless c.args.listening.served.lines.now (g.W.Write.contents c.args.writer.now) c.in-Err.fault c.in-Err.ensures.fault)

pub returns-in-Ok-served-clause-incomplete : goal.returns-in-Ok-served-clause-incomplete
returns-in-Ok-served-clause-incomplete g c =
    incomplete_in c.args.folder (line_numbers c.args.listening.served.lines.now) (paths_of c.in-Ok.recorders.items) c.in-Ok-served.outcome.incomplete c.in-Ok.ensures.paths c.in-Ok-served.ensures.incomplete

pub returns-in-Err-served-clause-err : goal.returns-in-Err-served-clause-err
returns-in-Err-served-clause-err g c = λ endless.
    rw c.from-in-Err-served.ensures (served_not_at_all (Some c.args.folder) endless c.args.listening.served.lines.now (map place_at c.args.listening.workers.ports.now) (g.W.Write.contents c.args.writer.now) (g.W.Write.contents c.serve_named-served.new.writer) c.in-Err-served.fault c.in-Err-served.ensures.err)
