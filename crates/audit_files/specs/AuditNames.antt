-- detail
-- The names of the files of audit texts (own).
use Rattle.std.specs.Prelude.{codes, ℕ, ◌+◌, ◌==◌, ◌&&◌, Bool, if◌then◌else◌, List, ◌++◌, Option, Some, None}
use Rattle.std.specs.Borrow.{Bor}
use Rattle.std.specs.Fmt.{decimal}
use Rattle.audit_files.specs.declared.audit_name.AuditName.{AuditName}
use Rattle.audit_files.specs.declared.audit_path.AuditPath.{AuditPath}
use Rattle.audit_files.specs.declared.audit_path.AuditPath.TheVariants as paths
use Rattle.audit_files.specs.AuditPaths.{leading_zeros}

abbrev pub part_words : Option ℕ → List ℕ
part_words None = codes ".audit"
part_words (Some part) = codes "." ++ leading_zeros part ++ decimal part ++ codes ".audit"

abbrev pub audit_name_text : AuditName → List ℕ
audit_name_text name = codes "line-" ++ decimal name.line ++ codes "-" ++ decimal name.number ++ part_words name.part

-- the next part of the same text, if there may be one
abbrev pub part_behind : AuditName → Option ℕ → Option AuditName
part_behind name None = None
part_behind name (Some part) = if part == 4294967295 then None else Some (record name { part = Some (part + 1) })

abbrev pub next_part : AuditName → Option AuditName
next_part name = part_behind name name.part

-- files of one text: of the same line, with the same number
abbrev pub is_same_text : AuditName → AuditName → Bool
is_same_text name other = (name.line == other.line) && (name.number == other.number)

-- the path of the file in this folder
abbrev pub path_in : Bor (List ℕ) → AuditName → AuditPath
path_in folder name = paths.File folder name.line name.number name.part
