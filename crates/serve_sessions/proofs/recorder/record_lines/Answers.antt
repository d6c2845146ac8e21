use Rattle.std.proofs.Common.{rules, ◌≡◌, ◌++◌, ◌∷◌, [], length, Some, arith}
use Rattle.std.proofs.lemmas.Slice.Zip.{AllZip-long}
use Rattle.serve_lines.specs.OpenedLines.{IsPortOf}
use Rattle.serve_lines.specs.ServedLines.{line_numbers}
use Rattle.serve_sessions.proofs.Recording.{fault_among, number_at, recorded_more}
use Rattle.serve_sessions.proofs.recorder.record_lines.Goals as goal

pub offset_bounds-ports-len : goal.offset_bounds-ports-len
offset_bounds-ports-len g c =
    let place : c.len.result ≡ length c.loop-line.all.items = search rules in
    let all = c.loop-line.invariant.0 in let within = c.loop-line-test.true in let few = c.requires.few in omega (arith, place, all, within, few)

pub bounds-ports-len : goal.bounds-ports-len
bounds-ports-len g c =
    let long = AllZip-long (λ line port. IsPortOf line.spec port) c.args.served.lines.now c.args.served.ports.now c.requires.opened in
    let place : c.len.result ≡ length c.loop-line.all.items = search rules in
    let all = c.loop-line.invariant.0 in let within = c.loop-line-test.true in omega (arith, long, place, all, within)

pub returns-in-Err-begin_text-clause-fault : goal.returns-in-Err-begin_text-clause-fault
returns-in-Err-begin_text-clause-fault g c =
    fault_among (Some c.args.folder) (line_numbers c.args.served.lines.now) c.line-item.result.spec.number c.in-Err-begin_text.fault
    (number_at c.args.served.lines.now c.loop-line.line-index c.line-item.result c.loop-line-test.true c.line-item.is) c.in-Err-begin_text.ensures.fault

pub loop-line-preserved : goal.loop-line-preserved
loop-line-preserved g c =
    let more : c.push.new.self.items ≡ c.loop-line.all.items ++ record { net = c.args.context.now.sockets.rt; serve_phase = c.args.context.now.sockets.serve_phase; file = c.in-Ok-begin_text.file } ∷ [] = search rules in (
      search rules,
      recorded_more c.args.folder.now c.args.served.lines.now c.loop-line.line-index c.line-item.result c.loop-line.all.items c.push.new.self.items _ c.loop-line-test.true c.line-item.is
          c.loop-line.invariant.1 more c.in-Ok-begin_text.ensures.path,
    )
