use Rattle.std.proofs.Common.{rules}
use Rattle.test_passes.proofs.Pairing.{all_paired}
use Rattle.test_passes.proofs.threads.serve_each.Goals as goal

pub returns : goal.returns
returns g c =
    all_paired (g.P.Serve.serves c.args.port.now c.args.turns) c.args.tasks.items c.in_ok-served.served.items (search rules)
    (λ i d within. let given = (c.in_ok-served.ensures.each i d within).1 in (given.job, given.job_read, search rules))
