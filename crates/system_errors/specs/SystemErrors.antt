-- detail
-- The cause that each error of the system has (own).
use Rattle.std.specs.Prelude.{ℕ, ℤ, pos, negsuc, ◌==◌, ◌||◌, if◌then◌else◌, Option, Some, None}
use Rattle.std.specs.declared.io.ErrorKind.{ErrorKind}
use Rattle.std.specs.declared.io.ErrorKind.TheVariants as kinds
use Rattle.system_errors.specs.declared.cause.Cause.{Cause}
use Rattle.system_errors.specs.declared.cause.Cause.TheVariants as causes

-- by the error number of the system: 23 and 24 mean that there are too few file descriptors
abbrev pub cause_of_number : Option ℤ → Cause
cause_of_number None = causes.Unknown
cause_of_number (Some (negsuc number)) = causes.Unknown
cause_of_number (Some (pos number)) = if (number == 24) || (number == 23) then causes.FewDescriptors else causes.Code number

-- by the kind of an error; for other kinds, by its number
abbrev pub cause_of_error : ErrorKind → Option ℤ → Cause
cause_of_error kinds.NotFound number = causes.NotThere
cause_of_error kinds.PermissionDenied number = causes.NoPermission
cause_of_error kinds.IsADirectory number = causes.IsFolder
cause_of_error kinds.NotADirectory number = causes.NoFolder
cause_of_error kinds.AlreadyExists number = causes.IsThere
cause_of_error kinds.InvalidData number = causes.NotText
cause_of_error kinds.AddrInUse number = causes.InUse
cause_of_error kinds.StorageFull number = causes.NoSpace
cause_of_error kinds.ReadOnlyFilesystem number = causes.ReadOnly
cause_of_error kinds.ConnectionRefused number = causes.NobodyListens
cause_of_error kind number = cause_of_number number
