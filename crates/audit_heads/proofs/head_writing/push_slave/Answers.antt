use Rattle.std.proofs.Common.{◌∙◌}
use Rattle.audit_heads.proofs.Pushed.{slave_pushed}
use Rattle.audit_heads.proofs.head_writing.push_slave.Goals as goal

pub returns : goal.returns
returns c =
    slave_pushed c.push_memory.result c.args.out.now.items c.push_lock.new.out.items c.push_data.new.out.items c.push_memory.new.out.items c.args.slave.now.slave c.address.result c.entries.result.now
    c.address.ensures (c.entries.ensures ∙ c.memory.ensures) c.in_ok-push_lock.ensures c.in_ok-push_data.ensures c.push_memory.ensures
