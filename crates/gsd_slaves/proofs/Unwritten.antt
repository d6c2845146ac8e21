-- A run that fails before it writes leaves its writer as it was.
use Rattle.std.proofs.Common.{ℕ, List, Option, Result, Err, refl, inr}
use Rattle.gsd_slaves.specs.declared.fault.GsdFault.{GsdFault}
use Rattle.gsd_slaves.specs.declared.fault.GsdFault.TheVariants as gsd
use Rattle.gsd_slaves.specs.declared.fault.SlaveFault.{SlaveFault}
use Rattle.gsd_slaves.specs.declared.fault.SlaveFault.TheVariants as slave
use Rattle.gsd_slaves.specs.GsdRuns as runs
use Rattle.gsd_slaves.specs.SlaveRuns as slaves

pub no_file : (outcome : Result (List ℕ) GsdFault) (old : Option (List ℕ)) (fault : GsdFault) → runs.Makes outcome (Err fault)
    → runs.Leaves outcome old old (Err fault)
no_file outcome old gsd.OutOfMemory made = refl
no_file outcome old gsd.WriteFault made = inr (made, refl)
no_file outcome old (gsd.Vendor cause) made = (made, refl)
no_file outcome old (gsd.Model cause) made = (made, refl)
no_file outcome old (gsd.Rack cause) made = (made, refl)
no_file outcome old (gsd.NoLine line) made = (made, refl)
no_file outcome old (gsd.NoSlave line address) made = (made, refl)

pub no_table : (outcome : Result (List ℕ) slaves.Refusal) (old : Option (List ℕ)) (fault : SlaveFault) → slaves.IsFault outcome fault
    → slaves.Leaves outcome old old (Err fault)
no_table outcome old slave.OutOfMemory is = (tt, refl)
no_table outcome old slave.WriteFault is = absurd is
no_table outcome old (slave.Row fault) is = (is, refl)
no_table outcome old (slave.Modules fault) is = (is, refl)
no_table outcome old (slave.UnknownModule text) is = (is, refl)
no_table outcome old (slave.WrongModule number text) is = (is, refl)
