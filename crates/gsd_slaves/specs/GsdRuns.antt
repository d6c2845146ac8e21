-- detail
-- What `rackd gsd` writes (own).
use Rattle.std.specs.Prelude.{◌≡◌, codes, ℕ, ◌==◌, ◌⊎◌, List, find, Option, Some, None, unwrap_or, Result, Ok, Err}
use Rattle.std.specs.Io.KnownBytes.{Appends}
use Rattle.dp_text.specs.Writes.{WritesPrefix}
use Rattle.dp_slave.specs.declared.description.SlaveSpec.{SlaveSpec}
use Rattle.dp_line.specs.World.{described_at}
use Rattle.rack_file.specs.Rack.{RackDescription, LineDescription}
use Rattle.rack_file.specs.RackFile.{rack_in}
use Rattle.gsd_files.specs.Steps.{◌>>=◌}
use Rattle.gsd_files.specs.GsdText.{gsd_text}
use Rattle.gsd_slaves.specs.Names.{latin_of}
use Rattle.gsd_slaves.specs.declared.fault.GsdFault.{GsdFault}
use Rattle.gsd_slaves.specs.declared.fault.GsdFault.TheVariants.{OutOfMemory, WriteFault, Vendor, Model, Rack, NoLine, NoSlave}

-- the names that are written if none are given
abbrev pub vendor_of : Option (List ℕ) → List ℕ
vendor_of vendor = unwrap_or vendor (codes "rackd")

abbrev pub model_of : Option (List ℕ) → List ℕ
model_of model = unwrap_or model (codes "simulated slave")

abbrev pub as_fault : {A E F : Type 0} → (E → F) → Result A E → Result A F
as_fault fault (Ok value) = Ok value
as_fault fault (Err cause) = Err (fault cause)

abbrev pub slave_by : ℕ → ℕ → Option SlaveSpec → Result SlaveSpec GsdFault
slave_by line address None = Err (NoSlave line address)
slave_by line address (Some slave) = Ok slave

abbrev pub slave_in : ℕ → ℕ → Option LineDescription → Result SlaveSpec GsdFault
slave_in line address None = Err (NoLine line)
slave_in line address (Some found) = slave_by line address (described_at found.line.slaves address)

-- the slave with this address on the line with this number
abbrev pub slave_of : ℕ → ℕ → RackDescription → Result SlaveSpec GsdFault
slave_of line address rack = slave_in line address (find (λ found. found.line.number == line) rack.lines)

-- the GSD file of a slave of a rack text, or the fault
abbrev pub gsd_outcome : List ℕ → ℕ → ℕ → Option (List ℕ) → Option (List ℕ) → Result (List ℕ) GsdFault
gsd_outcome text line address vendor model =
    as_fault Vendor (latin_of (vendor_of vendor)) >>= λ vendor_name.
    as_fault Model (latin_of (model_of model)) >>= λ model_name.
    as_fault Rack (rack_in text) >>= λ rack.
    slave_of line address rack >>= λ slave.
    Ok (gsd_text vendor_name model_name slave)

-- what a function that makes the text returned: the outcome, or memory ran out
abbrev pub Makes : Result (List ℕ) GsdFault → Result (List ℕ) GsdFault → Type 0
Makes outcome (Ok text) = outcome ≡ Ok text
Makes outcome (Err OutOfMemory) = Unit {0}
Makes outcome (Err fault) = outcome ≡ Err fault

-- what a run returned and left on its writer: the text, a prefix of it if a write failed, or nothing
abbrev pub Leaves : Result (List ℕ) GsdFault → Option (List ℕ) → Option (List ℕ) → Result (Unit {0}) GsdFault → Type 0
Leaves outcome old new (Ok done) = (text : List ℕ) × (outcome ≡ Ok text) × Appends old new text
Leaves outcome old new (Err OutOfMemory) = new ≡ old
Leaves outcome old new (Err WriteFault) =
    ((text : List ℕ) × (outcome ≡ Ok text) × WritesPrefix old new text) ⊎ ((outcome ≡ Err WriteFault) × (new ≡ old))
Leaves outcome old new (Err fault) = (outcome ≡ Err fault) × (new ≡ old)
