use Rattle.dp_slave.specs.SlaveRecord.{is_held}
use Rattle.dp_line.specs.declared.event.Op.TheVariants.{Halt}
use Rattle.dp_line.specs.Stations.{AreChanged, operated, slaves_of}
use Rattle.dp_line.proofs.stations.lists.release_each.Given as goal

abbrev pub invariant-loop-index : goal.invariant-loop-index
invariant-loop-index l = AreChanged l.masters (operated Halt) is_held l.index (slaves_of l.initial.slaves) l.owners l.slaves l.released_addresses.items
