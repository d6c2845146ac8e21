use Rattle.std.proofs.Common.{◌≡◌, All}
use Rattle.test_fixtures.proofs.rows.many_passes.Given as goal

abbrev pub invariant-loop : goal.invariant-loop
invariant-loop g l = All (λ p. p.table ≡ l.line.table.shared.table_id) l.passes.items
