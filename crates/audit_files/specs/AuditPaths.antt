-- detail
-- The paths of audit texts (own).
use Rattle.std.specs.Prelude.{◌≡◌, codes, ℕ, List, [], ◌++◌, Option, Some, None, Contains, if◌then◌else◌, nat_lt}
use Rattle.std.specs.Borrow.{Bor}
use Rattle.std.specs.Fmt.{decimal}
use Rattle.audit_files.specs.declared.audit_path.AuditPath.{AuditPath}
use Rattle.audit_files.specs.declared.audit_path.AuditPath.TheVariants as paths

-- the zeros that fill a number up to six digits
abbrev pub leading_zeros : ℕ → List ℕ
leading_zeros number = if nat_lt number 10 then codes "00000"
    else (if nat_lt number 100 then codes "0000"
    else (if nat_lt number 1000 then codes "000"
    else (if nat_lt number 10000 then codes "00"
    else (if nat_lt number 100000 then codes "0" else []))))

-- the path of the folder, or of a file in it: that of a whole text, or of one of its parts
abbrev pub audit_path_text : AuditPath → List ℕ
audit_path_text (paths.Folder folder) = folder.now
audit_path_text (paths.File folder line number None) = folder.now ++ codes "/line-" ++ decimal line ++ codes "-" ++ decimal number ++ codes ".audit"
audit_path_text (paths.File folder line number (Some part)) =
    folder.now ++ codes "/line-" ++ decimal line ++ codes "-" ++ decimal number ++ codes "." ++ leading_zeros part ++ decimal part ++ codes ".audit"

-- the path of this part of the same text
abbrev pub in_part : AuditPath → Option ℕ → AuditPath
in_part (paths.Folder folder) part = paths.Folder folder
in_part (paths.File folder line number other) part = paths.File folder line number part

-- a file in this folder, of a line with one of these numbers; without a folder there is no such file
abbrev pub IsFileIn : Option (Bor (List ℕ)) → List ℕ → AuditPath → Type 0
IsFileIn (Some folder) numbers (paths.File named line number part) = (named.now ≡ folder.now) × Contains numbers line
IsFileIn (Some folder) numbers (paths.Folder named) = ⊥
IsFileIn None numbers path = ⊥

-- this folder itself, or such a file
abbrev pub IsFolderOrFileIn : Option (Bor (List ℕ)) → List ℕ → AuditPath → Type 0
IsFolderOrFileIn (Some folder) numbers (paths.Folder named) = named.now ≡ folder.now
IsFolderOrFileIn folder numbers path = IsFileIn folder numbers path

-- a file in the folder with this path, of the line with this number
abbrev pub IsOfLine : List ℕ → ℕ → AuditPath → Type 0
IsOfLine folder number (paths.File named line of_text part) = (named.now ≡ folder) × (line ≡ number)
IsOfLine folder number (paths.Folder named) = ⊥
