use Rattle.std.proofs.Common.{rules}
use Rattle.test_memory_calls.proofs.pool.four_seats.Goals as goal

pub returns : goal.returns
returns c = (search rules, search rules, search rules, search rules)
