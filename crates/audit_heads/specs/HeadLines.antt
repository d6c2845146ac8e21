-- detail
-- A head from which a line goes on (own).
use Rattle.std.specs.Prelude.{ℕ, List, Option, Some, None, Result, Ok, Err}
use Rattle.dp_line.specs.World.{Description}
use Rattle.dp_line.specs.SoundWorld.{restore_fault}
use Rattle.dp_line.specs.declared.fault.RestoreFault.{RestoreFault}
use Rattle.audit_heads.specs.declared.head_fault.HeadFault.{HeadFault}
use Rattle.audit_heads.specs.declared.head_fault.HeadFault.TheVariants.{WrongRow, Unsound}
use Rattle.audit_heads.specs.Rows.{Left}
use Rattle.audit_heads.specs.Head.{Head, head_read}

abbrev pub if_sound : Option RestoreFault → Head → Left → Result (Head × Left) HeadFault
if_sound (Some fault) head left = Err (Unsound fault)
if_sound None head left = Ok (head, left)

abbrev pub sound_head : Result (Head × Left) ℕ → Result (Head × Left) HeadFault
sound_head (Err number) = Err (WrongRow number)
sound_head (Ok read) = if_sound (restore_fault read.0.world) read.0 read.1

-- a head of the line at the beginning of a text, and what is left after it, if a line goes on from its world; else the fault: a wrong row comes
-- before the world
unfoldable pub line_read : Description → List ℕ → Result (Head × Left) HeadFault
line_read line text = sound_head (head_read line text)
