use Rattle.std.proofs.Common.{ℕ, ◌-◌, ◌≤◌, List, map, length}
use Rattle.dp_owners.specs.Threaded.{IsThreaded}
use Rattle.dp_owners.proofs.Walks.{IsUnderway}
use Rattle.dp_owners.proofs.owners.Owners.list.Given as goal

abbrev pub invariant-loop-step : goal.invariant-loop-step
invariant-loop-step g l = record {
  underway : (lists : ℕ → List ℕ) → IsThreaded l.self (map g.T.Linked.links_of l.records) lists
      → IsUnderway l.cursor (map g.T.Linked.links_of l.records) (lists l.master) l.list.items (length l.records - l._step);
  room : length l.list.items ≤ l._step;
}
