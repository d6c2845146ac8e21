use Rattle.std.proofs.Common.{rules}
use Rattle.watch_lines.proofs.kept_entry.is_notable.Goals as goal

pub returns-then-is_some : goal.returns-then-is_some
returns-then-is_some c = record {
  fault = c.find-fault.result;
  change = c.find-change.result;
  finds_fault = c.find-fault.ensures;
  finds_change = c.find-change.ensures;
  answered = search rules;
}

pub returns-else-is_some : goal.returns-else-is_some
returns-else-is_some c = record {
  fault = c.find-fault.result;
  change = c.find-change.result;
  finds_fault = c.find-fault.ensures;
  finds_change = c.find-change.ensures;
  answered = search rules;
}
