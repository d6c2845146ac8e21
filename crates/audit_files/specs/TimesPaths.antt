-- detail
-- The paths of files of times (own).
use Rattle.std.specs.Prelude.{codes, ℕ, List, ◌++◌, Option, Some, None}
use Rattle.std.specs.Fmt.{decimal}
use Rattle.audit_files.specs.declared.times_path.TimesPath.{TimesPath}
use Rattle.audit_files.specs.AuditPaths.{leading_zeros}

-- what stands before the ending: the number of the part, if the text has parts
abbrev pub part_of_path : Option ℕ → List ℕ
part_of_path None = codes ".times"
part_of_path (Some part) = codes "." ++ leading_zeros part ++ decimal part ++ codes ".times"

-- the path of the file beside that of the audit text with this name
abbrev pub times_path_text : TimesPath → List ℕ
times_path_text path = path.folder.now ++ codes "/line-" ++ decimal path.name.line ++ codes "-" ++ decimal path.name.number ++ part_of_path path.name.part
