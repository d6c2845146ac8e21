use Rattle.std.proofs.Common.{ℕ, ◌<◌, List, map}
use Rattle.dp_owners.specs.Positions.{NotIn}
use Rattle.dp_owners.specs.Threaded.{IsThreaded}
use Rattle.dp_owners.proofs.owners.Owners.owner_of.Given as goal

abbrev pub invariant-loop-master : goal.invariant-loop-master
invariant-loop-master g l = (lists : ℕ → List ℕ) → IsThreaded l.self (map g.T.Linked.links_of l.records) lists → (m : ℕ) → m < l.master → NotIn l.at (lists m)
