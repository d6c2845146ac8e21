-- detail
-- What a GSD file says as a whole (own).
use Rattle.std.specs.Prelude.{◌≡◌, ℕ, ◌+◌, ◌-◌, ◌==◌, take, count_by, length, Bool, if◌then◌else◌, List, [], ◌∷◌, ◌++◌, Option, Some, None, Result, Ok, Err}
use Rattle.std.specs.List.{slice_split}
use Rattle.gsd_files.specs.Steps.{◌>>=◌}
use Rattle.gsd_files.specs.Defaults.{defaults_of}
use Rattle.gsd_files.specs.Reading.{no_facts, after_line}
use Rattle.gsd_files.specs.declared.cause.Cause.{Cause}
use Rattle.gsd_files.specs.declared.cause.Cause.TheVariants.{NoHeading, NoEndModule, NoIdent}
use Rattle.gsd_files.specs.declared.cause.RowFault.{RowFault}
use Rattle.gsd_files.specs.declared.cause.GsdReadFault.{GsdReadFault}
use Rattle.gsd_files.specs.declared.cause.GsdReadFault.TheVariants as faults
use Rattle.gsd_files.specs.declared.facts.Ended.{Ended}
use Rattle.gsd_files.specs.declared.facts.Ended.TheVariants as endeds
use Rattle.gsd_files.specs.declared.facts.Facts.{Facts}
use Rattle.gsd_files.specs.declared.facts.Module.{Module}
use Rattle.gsd_files.specs.declared.facts.Next.TheVariants as nexts
use Rattle.gsd_files.specs.declared.facts.Slot.{Slot}
use Rattle.gsd_files.specs.declared.facts.State.{State}
use Rattle.gsd_files.specs.declared.facts.Step.{Step}
use Rattle.gsd_files.specs.declared.gsd.Gsd.{Gsd}
use Rattle.gsd_files.specs.declared.user.UserDefault.{UserDefault}

-- what a whole file says: its rows, its Ident_Number, and its modules and slots in the order of the file
pub record File : Type 0 where
  pub facts : Facts
  pub ident : ℕ
  pub modules : List Module
  pub slots : List Slot

-- what has been read of a file
pub record Begun : Type 0 where
  pub state : State
  pub modules : List Module
  pub slots : List Slot

-- a fault of the line with this number, from 1
abbrev pub at_row : {A : Type 0} → ℕ → Result A Cause → Result A RowFault
at_row row (Ok value) = Ok value
at_row row (Err cause) = Err (record { row = row; cause = cause })

abbrev pub with_module : List Module → Ended → List Module
with_module modules endeds.Nothing = modules
with_module modules (endeds.Module ended) = modules ++ ended ∷ []
with_module modules (endeds.Slot ended) = modules

abbrev pub with_slot : List Slot → Ended → List Slot
with_slot slots endeds.Nothing = slots
with_slot slots (endeds.Module ended) = slots
with_slot slots (endeds.Slot ended) = slots ++ ended ∷ []

-- one more line
abbrev pub begun_by : Begun → Step → Begun
begun_by begun step =
    record { state = step.state; modules = with_module begun.modules step.ended; slots = with_slot begun.slots step.ended }

abbrev pub file_by : Begun → Option ℕ → Result File Cause
file_by begun None = Err NoIdent
file_by begun (Some ident) = Ok (record { facts = begun.state.facts; ident = ident; modules = begun.modules; slots = begun.slots })

-- no module is open at the end
abbrev pub ended_by : Begun → Option Module → Result File Cause
ended_by begun (Some current) = Err NoEndModule
ended_by begun None = file_by begun begun.state.facts.ident

-- what the lines that have been read say
abbrev pub file_of : Begun → Result File Cause
file_of begun = if begun.state.facts.headed then ended_by begun begun.state.current else Err NoHeading

-- what these lines give behind those that have been read, of which there are `row`; a fault of the whole file is one of the line `last`
abbrev pub read_from : List UserDefault → ℕ → ℕ → Begun → List (List ℕ) → Result File RowFault
read_from defaults last row begun [] = at_row last (file_of begun)
read_from defaults last row begun (line ∷ lines) =
    at_row (row + 1) (after_line defaults begun.state line) >>= λ step. read_from defaults last (row + 1) (begun_by begun step) lines

abbrev pub start : Begun
start = record { state = record { facts = no_facts; current = None; slot = None; next = nexts.Row }; modules = []; slots = [] }

-- the octet that ends a line
abbrev pub is_lf : ℕ → Bool
is_lf octet = octet == 10

-- lines end in LF; what follows the last LF is a line too
abbrev pub lines_of : List ℕ → List (List ℕ)
lines_of text = slice_split is_lf text

-- the number of the last line, from 1; an LF at the end begins no further one
abbrev pub last_row : List ℕ → ℕ
last_row text = count_by is_lf (take (length text - 1) text) + 1

-- what a GSD file says, or its first fault
abbrev pub gsd_of : List ℕ → Result File RowFault
gsd_of text = read_from (defaults_of (lines_of text)) (last_row text) 0 start (lines_of text)

-- what a `Gsd` holds
abbrev pub file_in : Gsd → File
file_in gsd = record { facts = gsd.facts; ident = gsd.ident; modules = gsd.modules.items; slots = gsd.slots.items }

-- reading ended with this fault: the file has it, or memory ran out
abbrev pub Fails : {A : Type 0} → Result A RowFault → GsdReadFault → Type 0
Fails read faults.OutOfMemory = Unit {0}
Fails read (faults.Row fault) = read ≡ Err fault
