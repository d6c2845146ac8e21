use Rattle.std.proofs.Common.{rules, ◌≡◌, List, is_ok, true, sym, subst, ap, ◌∙◌}
use Rattle.entry_times.proofs.Around.{more_in_order}
use Rattle.entry_times.proofs.entry_times.EntryTimes.push.Goals as goal

pub invariant_of-self : goal.invariant_of-self
invariant_of-self c = record { order = more_in_order (is_ok c.push.result) c.args.self.now.rows.items c.push.new.self.items c.args.row c.args.self.now.order (search rules) c.push.ensures.items }
