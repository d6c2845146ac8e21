-- detail
-- The second row on standard error: why the program cannot open, read or write a file, or use a port (own).
use Rattle.std.specs.Prelude.{codes, ℕ, List, ◌++◌}
use Rattle.std.specs.Fmt.{decimal}
use Rattle.system_errors.specs.declared.cause.Cause.{Cause}
use Rattle.system_errors.specs.declared.cause.Cause.TheVariants as causes

-- the row without its LF
abbrev pub cause_text : Cause → List ℕ
cause_text causes.NotThere = codes "  no such file or folder"
cause_text causes.NoPermission = codes "  permission denied"
cause_text causes.IsFolder = codes "  it is a folder, not a file"
cause_text causes.NoFolder = codes "  a part of the path before the last '/' is not a folder"
cause_text causes.IsThere = codes "  a file or folder of this name exists already"
cause_text causes.NotText = codes "  it is not UTF-8 text"
cause_text causes.InUse = codes "  another program uses this port"
cause_text causes.TwiceInRack = codes "  the rack file has this port twice"
cause_text causes.FewDescriptors = codes "  too few file descriptors; 'ulimit -n' shows and raises their number"
cause_text causes.NoSpace = codes "  no space left on the disk"
cause_text causes.ReadOnly = codes "  the file system is read-only"
cause_text causes.NobodyListens = codes "  no program listens on this port"
cause_text causes.NotTaken = codes "  a row was written only in part"
cause_text causes.Forgotten = codes "  memory lost entries before they were written"
cause_text causes.NoNumber = codes "  an audit text of the line has the highest number; choose another folder"
cause_text (causes.Code code) = codes "  system error " ++ decimal code
cause_text causes.Unknown = codes "  the system gives no cause"
