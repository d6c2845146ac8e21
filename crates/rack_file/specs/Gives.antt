-- helper
-- The result of a function that reads and that may run out of memory (own).
use Rattle.std.specs.Prelude.{◌≡◌, Option, Some, None, Result, Ok, Err}
use Rattle.rack_file.specs.declared.fault.RackFault.{RackFault}
use Rattle.rack_file.specs.declared.fault.RackFault.TheVariants as faults
use Rattle.rack_file.specs.declared.misread.Cause.{Cause}
use Rattle.rack_file.specs.declared.misread.Misread.{Misread}
use Rattle.rack_file.specs.declared.misread.Misread.TheVariants as misreads
use Rattle.rack_file.specs.declared.misread.Unread.{Unread}
use Rattle.rack_file.specs.declared.misread.Unread.TheVariants as unreads

-- the fault of what was read; None if memory ran out
abbrev pub reported : Misread → Option Misread
reported misreads.OutOfMemory = None
reported misread = Some misread

abbrev pub wrong : Unread → Option Cause
wrong unreads.OutOfMemory = None
wrong (unreads.Wrong cause) = Some cause

-- reading ended with this fault: what was to be read has the same fault, if there is one
abbrev pub Refuses : {A E : Type 0} → Option E → Result A E → Type 0
Refuses None read = Unit {0}
Refuses (Some fault) read = read ≡ Err fault

-- what a function returned is what was to be read, seen by `view`; `reports` gives the fault of what was read
abbrev pub Gives : {A B E F : Type 0} → (F → Option E) → (A → B) → Result A F → Result B E → Type 0
Gives reports view (Ok x) read = read ≡ Ok (view x)
Gives reports view (Err fault) read = Refuses (reports fault) read

-- a function that returned this fault was to read this: the text has this fault, or memory ran out
abbrev pub Fails : {A : Type 0} → RackFault → Result A RackFault → Type 0
Fails faults.OutOfMemory read = Unit {0}
Fails fault read = read ≡ Err fault
