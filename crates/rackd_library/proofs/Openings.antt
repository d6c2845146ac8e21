-- The number of an opening.
use Rattle.std.proofs.Common.{◌≡◌, ◌≢◌, ℕ, Bool, Result, Ok, Err, refl, sym, ap, ◌∙◌}
use Rattle.rack_file.specs.Codes.{rack_fault_code}
use Rattle.rack_file.specs.Gives.{Fails}
use Rattle.rack_file.specs.Rack.{RackDescription}
use Rattle.rack_file.specs.declared.fault.RackFault.{RackFault}
use Rattle.rack_file.specs.declared.fault.RackFault.TheVariants as faults
use Rattle.embedded_rack.specs.RackCalls.{EmbeddedRack, Opens}
use Rattle.rackd_library.specs.Answers.{opening_number}

pub opens_number : (endless : Bool) (read : Result RackDescription RackFault) (rack : EmbeddedRack) → Opens endless read rack → 0 ≡ opening_number read
opens_number endless (Ok description) rack opens = refl
opens_number endless (Err fault) rack opens = absurd opens

pub some_code : (fault : RackFault) → rack_fault_code fault ≡ 0 → ⊥
some_code faults.OutOfMemory e = absurd cc
some_code faults.NotToml e = absurd cc
some_code faults.BadKey e = absurd cc
some_code faults.TwiceLine e = absurd cc
some_code (faults.Open position fault) e = absurd cc

pub fails_number : (fault : RackFault) (read : Result RackDescription RackFault) (number : ℕ) → Fails fault read → number ≡ rack_fault_code fault → number ≢ 1 → number ≡ opening_number read
fails_number faults.OutOfMemory read number fails is other = absurd (other is)
fails_number faults.NotToml read number fails is other = is ∙ sym (ap opening_number fails)
fails_number faults.BadKey read number fails is other = is ∙ sym (ap opening_number fails)
fails_number faults.TwiceLine read number fails is other = is ∙ sym (ap opening_number fails)
fails_number (faults.Open position fault) read number fails is other = is ∙ sym (ap opening_number fails)
