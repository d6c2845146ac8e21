-- helper
-- What a call that reads rows returns and leaves. No public clause cites this module.
use Rattle.std.specs.Prelude.{◌≡◌, codes, ℕ, List, ◌++◌, Result, Ok, Err}
use Rattle.std.specs.List.{filter_map, range_with_len}
use Rattle.dp_responder.specs.Memory.{MasterMemory}
use Rattle.dp_slave.specs.declared.description.SlaveSpec.{SlaveSpec}
use Rattle.dp_slave.specs.SlaveRecord.{SlaveRecord}
use Rattle.dp_slave.specs.SlaveParts.{SlaveParts}
use Rattle.dp_line.specs.World.{described_at}
use Rattle.dp_line.specs.Stations.{slaves_of}
use Rattle.audit_heads.specs.declared.head_fault.HeadFault.{HeadFault}
use Rattle.audit_heads.specs.declared.head_fault.HeadFault.TheVariants.{WrongRow, Unsound, OutOfMemory}
use Rattle.audit_heads.specs.declared.head_reading.LockRows.{LockRows}
use Rattle.audit_heads.specs.declared.head_reading.DataRows.{DataRows}
use Rattle.audit_heads.specs.Rows.{Left, and_then, read_row}
use Rattle.audit_heads.specs.SlaveRows.{data_of_row, diag_of_row, prm_of_row, settings_of_row, hold_state_of_row}

-- the value and what is left, or the number of the wrong row
abbrev pub read_as : {A : Type 0} → Result A ℕ → Left → Result (A × Left) ℕ
read_as (Ok value) left = Ok (value, left)
read_as (Err number) left = Err number

-- what is remembered of more masters, behind what is remembered of others
abbrev pub behind : List MasterMemory → Result (List MasterMemory × Left) ℕ → Result (List MasterMemory × Left) ℕ
behind memory (Err number) = Err number
behind memory (Ok read) = Ok (memory ++ read.0, read.1)

-- the first three rows of a slave, and the next three
abbrev pub lock_read : ℕ → Left → Result (LockRows × Left) ℕ
lock_read address left =
    and_then (read_row (hold_state_of_row address) left) (λ s left_1.
    and_then (read_row (settings_of_row address) left_1) (λ t left_2.
    and_then (read_row (prm_of_row address) left_2) (λ p rest.
    Ok (record { hold_state = s; settings = t; prm = p }, rest))))

abbrev pub data_read : ℕ → Left → Result (DataRows × Left) ℕ
data_read address left =
    and_then (read_row (data_of_row (codes "in") address) left) (λ i left_1.
    and_then (read_row (data_of_row (codes "out") address) left_1) (λ o left_2.
    and_then (read_row (diag_of_row address) left_2) (λ g rest.
    Ok (record { inputs = i; outputs = o; diag = g }, rest))))

-- the slave that is read, without its links
abbrev pub slave_as : Result SlaveParts ℕ → Left → Result (SlaveRecord × Left) ℕ
slave_as (Ok parts) left = Ok (parts.slave, left)
slave_as (Err number) left = Err number

-- slaves that are read, behind those before them
abbrev pub behind_slaves : List SlaveRecord → Result (List SlaveRecord × Left) ℕ → Result (List SlaveRecord × Left) ℕ
behind_slaves slaves (Err number) = Err number
behind_slaves slaves (Ok read) = Ok (slaves ++ read.0, read.1)

-- the slaves are these; a fault is that of the wrong row, unless memory ran out
abbrev pub AreRead : {V : Type 0} → (V → List SlaveParts) → Result V HeadFault → Left → Result (List SlaveRecord × Left) ℕ → Type 0
AreRead items (Ok parts) left reading = reading ≡ Ok (slaves_of (items parts), left)
AreRead items (Err (WrongRow number)) left reading = reading ≡ Err number
AreRead items (Err (Unsound fault)) left reading = ⊥
AreRead items (Err OutOfMemory) left reading = Unit {0}

-- the descriptions of a line from this address on, for a number of addresses
abbrev pub described_from : List SlaveSpec → ℕ → ℕ → List SlaveSpec
described_from descriptions address count = filter_map (described_at descriptions) (range_with_len address count)
