use Rattle.audit_heads.proofs.Pushed.{slaves_pushed}
use Rattle.audit_heads.proofs.head_writing.+push_slaves.Goals as goal

pub returns-in_ok-push_slave-in-len1-up : goal.returns-in_ok-push_slave-in-len1-up
returns-in_ok-push_slave-in-len1-up t c =
    slaves_pushed c.push_slaves.result c.args.out.now.items c.push_slave.new.out.items c.push_slaves.new.out.items c.args.slaves.now c.slave-item.result c.in-len1-up.len_at_least c.slave-item.is
    c.in_ok-push_slave-in-len1-up.ensures c.push_slaves.ensures
