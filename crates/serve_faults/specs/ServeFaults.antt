-- detail
-- Why a rack is not served: how other faults are converted, and the text (own).
use Rattle.std.specs.Prelude.{codes, ℕ, List, ◌++◌}
use Rattle.std.specs.Fmt.{decimal}
use Rattle.rack_file.specs.FaultText.{rack_fault_text}
use Rattle.rack_file.specs.declared.fault.RackFault.{RackFault}
use Rattle.rack_file.specs.declared.fault.RackFault.TheVariants as racks
use Rattle.audit_files.specs.AuditPaths.{audit_path_text}
use Rattle.audit_files.specs.declared.file_fault.FileFault.{FileFault}
use Rattle.audit_files.specs.declared.file_fault.FileFault.TheVariants as files
use Rattle.serve_faults.specs.declared.serve_fault.OutputFault.{OutputFault}
use Rattle.serve_faults.specs.declared.serve_fault.OutputFault.TheVariants as outputs
use Rattle.serve_faults.specs.declared.serve_fault.ServeFault.{ServeFault}
use Rattle.serve_faults.specs.declared.serve_fault.ServeFault.TheVariants as faults

-- the output, or the file that names the ports, is not written whole
abbrev pub of_output_fault : OutputFault → ServeFault
of_output_fault outputs.OutOfMemory = faults.OutOfMemory
of_output_fault outputs.WriteFault = faults.WriteFault
of_output_fault (outputs.CannotMakePorts cause) = faults.CannotMakePorts cause

-- the rack is not accepted
abbrev pub of_rack_fault : RackFault → ServeFault
of_rack_fault racks.OutOfMemory = faults.OutOfMemory
of_rack_fault other = faults.Rack other

-- an audit text is not begun
abbrev pub of_file_fault : FileFault → ServeFault
of_file_fault files.OutOfMemory = faults.OutOfMemory
of_file_fault (files.CannotMake path cause) = faults.CannotMake path cause

-- the text of a fault, without the cause
abbrev pub serve_fault_text : ServeFault → List ℕ
serve_fault_text faults.OutOfMemory = codes "out of memory"
serve_fault_text (faults.Rack fault) = rack_fault_text fault
serve_fault_text (faults.CannotListen port cause) = codes "cannot listen on " ++ decimal port
serve_fault_text (faults.CannotMake path cause) = codes "cannot make " ++ audit_path_text path
serve_fault_text (faults.CannotWrite path cause) = codes "cannot write " ++ audit_path_text path
serve_fault_text (faults.CannotMakePorts cause) = codes "cannot make the file of ports"
serve_fault_text faults.WriteFault = codes "cannot write"
