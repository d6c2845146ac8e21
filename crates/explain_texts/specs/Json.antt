-- detail
-- The lines of JSON of an entry and of a verdict (own).
use Rattle.std.specs.Prelude.{codes, ℕ, List, [], ◌++◌, Result, Ok, Err}
use Rattle.std.specs.Fmt.{decimal}
use Rattle.dp_audit.specs.declared.fault.AuditFault.{AuditFault}
use Rattle.dp_audit.specs.declared.fault.AuditFault.TheVariants as faults

-- the front of the line of the entry at this place
abbrev pub entry_front : ℕ → List ℕ
entry_front place = codes "{\"version\":2,\"kind\":\"entry\",\"place\":" ++ decimal place

-- the verdict on an audit text; nothing is written if memory ran out
abbrev pub verdict_line : Result ℕ AuditFault → List ℕ
verdict_line (Ok count) = codes "{\"version\":2,\"kind\":\"verdict\",\"verdict\":\"legal\",\"entries\":" ++ decimal count ++ codes "}\n"
verdict_line (Err faults.OutOfMemory) = []
verdict_line (Err (faults.BadLine row)) = codes "{\"version\":2,\"kind\":\"verdict\",\"verdict\":\"bad line\",\"row\":" ++ decimal row ++ codes "}\n"
verdict_line (Err (faults.NotThePolicy row)) = codes "{\"version\":2,\"kind\":\"verdict\",\"verdict\":\"not the policy\",\"row\":" ++ decimal row ++ codes "}\n"

-- the verdict behind the findings of a judge, whose lines have no version
abbrev pub verdict_json : Result ℕ AuditFault → List ℕ
verdict_json (Ok count) = codes "{\"verdict\":\"legal\",\"entries\":" ++ decimal count ++ codes "}\n"
verdict_json (Err faults.OutOfMemory) = []
verdict_json (Err (faults.BadLine row)) = codes "{\"verdict\":\"bad line\",\"row\":" ++ decimal row ++ codes "}\n"
verdict_json (Err (faults.NotThePolicy row)) = codes "{\"verdict\":\"not the policy\",\"row\":" ++ decimal row ++ codes "}\n"
