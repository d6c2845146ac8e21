use Rattle.std.proofs.Common.{arith}
use Rattle.judge_rules.proofs.Walks.{request_taken_at, stray_taken_at, token_taken_at}
use Rattle.judge_rules.proofs.judge.take_at.Goals as goal

pub returns-in-Request : goal.returns-in-Request
returns-in-Request c past are =
    request_taken_at past c.args.entry.now c.in-Request.request c.args.stations.now c.from.result c.take.new.self _ c.in-Request.is c.from.ensures (omega arith) are c.take.ensures

pub returns-in-PassedToken : goal.returns-in-PassedToken
returns-in-PassedToken c past are = token_taken_at past c.args.entry.now _ c.args.stations.now c.in-PassedToken.is are

pub returns-in-Stray : goal.returns-in-Stray
returns-in-Stray c past are = stray_taken_at past c.args.entry.now c.args.stations.now c.in-Stray.is are
