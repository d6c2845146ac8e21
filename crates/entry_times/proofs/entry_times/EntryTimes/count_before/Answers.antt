use Rattle.std.proofs.Common.{rules, of_calls, ◌≡◌, List, ltb, ltb-true, ltb-false, sym, subst, arith}
use Rattle.std.proofs.lemmas.List.Sorted.{IsPartitionPoint-from_clause, IsPartitionedBy-ltb}
use Rattle.entry_times.specs.PlaceTimes.{AreInOrder, rows_before}
use Rattle.entry_times.specs.declared.time_row.TimeRow.{TimeRow}
use Rattle.entry_times.proofs.Around.{count_from_point}
use Rattle.entry_times.proofs.entry_times.EntryTimes.count_before.Goals as goal

pub returns : goal.returns
returns c =
    let order : AreInOrder c.as_slice.result.now = subst AreInOrder (sym c.as_slice.ensures.value) c.args.self.now.order in
    let parted = IsPartitionedBy-ltb (λ (row : TimeRow). row.place) c.as_slice.result.now c.args.place order in
    let point = IsPartitionPoint-from_clause (λ (row : TimeRow). ltb row.place c.args.place) c.as_slice.result.now c.partition_point.result c.partition_point.ensures.partitioned parted (λ a r f k. search (rules, of_calls)) in
    record {
      count = subst (λ (rows : List TimeRow). c.partition_point.result ≡ rows_before c.args.place rows) c.as_slice.ensures.value
          (count_from_point c.args.place c.as_slice.result.now c.partition_point.result c.partition_point.ensures.bound
          (λ k d within. ltb-true _ _ (point.0 k d (omega arith) within)) (λ k d from within. ltb-false _ _ (point.1 k d from within)));
    }
