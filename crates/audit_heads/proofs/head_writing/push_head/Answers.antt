use Rattle.std.proofs.Common.{List, ℕ, ◌++◌, ap, codes}
use Rattle.dp_line.specs.Stations.{slaves_of}
use Rattle.audit_heads.proofs.Pushed.{head_pushed}
use Rattle.audit_heads.proofs.head_writing.push_head.Goals as goal

pub returns : goal.returns
returns c =
    head_pushed c.push_slaves.result c.args.out.now.items c.push_row.new.out.items c.push_row-2.new.out.items c.push_slaves.new.out.items (c.set_header.new.text ++ codes "\n") (c.set_running.new.text ++ codes "\n")
    c.args.number c.count.result c.args.line.now.world c.is_halted.result c.args.time (slaves_of c.slaves.result.now)
    (ap (λ (t : List ℕ). t ++ codes "\n") c.set_header.ensures.row) (ap (λ (t : List ℕ). t ++ codes "\n") c.set_running.ensures.row) c.count.ensures c.is_halted.ensures c.slaves.ensures
    c.in_ok-push_row.ensures c.in_ok-push_row-2.ensures c.push_slaves.ensures
