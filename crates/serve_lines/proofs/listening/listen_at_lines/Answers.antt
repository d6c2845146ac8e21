use Rattle.std.proofs.Common.{sym}
use Rattle.serve_lines.proofs.WithPorts.{ports_at}
use Rattle.serve_lines.proofs.listening.listen_at_lines.Goals as goal

pub returns-in-Err-clause-fault : goal.returns-in-Err-clause-fault
returns-in-Err-clause-fault g c = (ports_at c.args.lines.now c.loop-line.line-index c.line-item.result c.loop-line-test.true (sym c.line-item.is)).0

pub returns-in-Err-listen_at-clause-fault : goal.returns-in-Err-listen_at-clause-fault
returns-in-Err-listen_at-clause-fault g c = (ports_at c.args.lines.now c.loop-line.line-index c.line-item.result c.loop-line-test.true (sym c.line-item.is)).1
