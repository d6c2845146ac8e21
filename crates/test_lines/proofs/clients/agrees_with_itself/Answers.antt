use Rattle.std.proofs.Common.{None, false, refl}
use Rattle.dp_line.specs.declared.event.Event.TheVariants.{Operator}
use Rattle.dp_line.specs.declared.event.Op.TheVariants.{Busy}
use Rattle.dp_line.specs.Effects.{facts_of}
use Rattle.test_lines.proofs.clients.agrees_with_itself.Goals as goal

pub returns : goal.returns
unfolding facts_of
returns c = λ master address slave here held goes.
    let known = c.facts_name_masters.ensures c.args.line.now.world (Operator (Busy address None false)) slave.state master c.holders_are_masters.ensures (rw (here, held) refl) in
    record {
      slave = slave;
      twin = slave;
      here = here;
      there = here;
      is_master = known;
      is_master_there = known;
      held = held;
      goes = goes;
      goes_there = goes;
      description = refl;
      process = refl;
      busy = refl;
      memory = refl;
    }
