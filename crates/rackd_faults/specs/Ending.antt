-- detail
-- How the program ends: its status, and the first row on standard error (own).
use Rattle.std.specs.Prelude.{codes, ℕ, List, ◌++◌, Option, Some, None}
use Rattle.std.specs.Fmt.{decimal}
use Rattle.audit_files.specs.AuditNames.{audit_name_text}
use Rattle.rack_file.specs.declared.fault.RackFault.TheVariants as racks
use Rattle.rack_script.specs.declared.run_fault.RunFault.TheVariants as runs
use Rattle.rack_script.specs.FaultTexts.{run_fault_text}
use Rattle.system_errors.specs.declared.cause.Cause.{Cause}
use Rattle.serve_faults.specs.ServeFaults.{serve_fault_text}
use Rattle.serve_faults.specs.declared.serve_fault.ServeFault.{ServeFault}
use Rattle.serve_faults.specs.declared.serve_fault.ServeFault.TheVariants as serves
use Rattle.rackd_faults.specs.declared.ending.Fault.{Fault}
use Rattle.rackd_faults.specs.declared.ending.Fault.TheVariants as faults

-- a rack that is not served, or no longer served: 3 if memory or a thread is refused, 4 if standard output cannot be written, 5 if an entry cannot be
-- written to its file, otherwise 2
abbrev pub serve_status : ServeFault → ℕ
serve_status serves.OutOfMemory = 3
serve_status (serves.Rack racks.OutOfMemory) = 3
serve_status (serves.Rack other) = 2
serve_status (serves.CannotListen port cause) = 2
serve_status (serves.CannotMake path cause) = 2
serve_status (serves.CannotWrite path cause) = 5
serve_status (serves.CannotMakePorts cause) = 2
serve_status serves.WriteFault = 4

-- 2 for words, files, input, ports and addresses that cannot be used, 3 if memory is refused, 4 if standard output cannot be written, 5 if an entry cannot be
-- written to its file
abbrev pub status_of : Fault → ℕ
status_of faults.BadWord = 2
status_of (faults.CannotRead path cause) = 2
status_of (faults.CannotReadPart folder part cause) = 2
status_of (faults.OtherText path first) = 2
status_of (faults.CannotMake path cause) = 2
status_of (faults.CannotConnect port cause) = 2
status_of (faults.PortEnded port) = 2
status_of (faults.LongAnswer port) = 2
status_of (faults.NoSlave address) = 2
status_of (faults.NoMaster address) = 2
status_of (faults.NoLine number) = 2
status_of faults.BadName = 2
status_of (faults.BadGsd path) = 2
status_of faults.FewThreads = 2
status_of faults.OutputIsTerminal = 2
status_of (faults.Run (runs.Rack racks.OutOfMemory)) = 3
status_of (faults.Run (runs.Rack other)) = 2
status_of (faults.Run (runs.Script line)) = 2
status_of (faults.Run runs.OutOfMemory) = 3
status_of (faults.Run runs.WriteFault) = 4
status_of (faults.Run runs.CannotRead) = 2
status_of (faults.Run runs.NotText) = 2
status_of (faults.Serve fault) = serve_status fault

-- the line on standard error without its LF
abbrev pub fault_text : Fault → List ℕ
fault_text faults.BadWord = codes "rackd: a word is not UTF-8"
fault_text (faults.CannotRead path cause) = codes "rackd: cannot read " ++ path.now
fault_text (faults.CannotReadPart folder part cause) = codes "rackd: cannot read " ++ folder.now ++ audit_name_text part
fault_text (faults.OtherText path first) = codes "rackd: cannot read " ++ path.now
fault_text (faults.CannotMake path cause) = codes "rackd: cannot make " ++ path.now
fault_text (faults.CannotConnect port cause) = codes "rackd: cannot connect to " ++ decimal port
fault_text (faults.PortEnded port) = codes "rackd: port " ++ decimal port ++ codes " has ended"
fault_text (faults.LongAnswer port) = codes "rackd: an answer of port " ++ decimal port ++ codes " has more than 65536 octets"
fault_text (faults.NoSlave address) = codes "rackd: the line has no slave " ++ decimal address
fault_text (faults.NoMaster address) = codes "rackd: the line has no master " ++ decimal address
fault_text (faults.NoLine number) = codes "rackd: the rack has no line " ++ decimal number
fault_text faults.BadName = codes "rackd: a name for the GSD file is not accepted"
fault_text (faults.BadGsd path) = codes "rackd: cannot use " ++ path.now
fault_text faults.FewThreads = codes "rackd: too few threads for the page"
fault_text faults.OutputIsTerminal = codes "rackd: standard output is a terminal"
fault_text (faults.Run fault) = codes "rackd: " ++ run_fault_text fault
fault_text (faults.Serve fault) = codes "rackd: " ++ serve_fault_text fault

-- why a port or an audit file cannot be used, if that is the fault
abbrev pub serve_cause : ServeFault → Option Cause
serve_cause serves.OutOfMemory = None
serve_cause (serves.Rack fault) = None
serve_cause (serves.CannotListen port cause) = Some cause
serve_cause (serves.CannotMake path cause) = Some cause
serve_cause (serves.CannotWrite path cause) = Some cause
serve_cause (serves.CannotMakePorts cause) = Some cause
serve_cause serves.WriteFault = None

-- why a file or a port cannot be used, if that is the fault
abbrev pub cause_of : Fault → Option Cause
cause_of faults.BadWord = None
cause_of (faults.CannotRead path cause) = Some cause
cause_of (faults.CannotReadPart folder part cause) = Some cause
cause_of (faults.OtherText path first) = None
cause_of (faults.CannotMake path cause) = Some cause
cause_of (faults.CannotConnect port cause) = Some cause
cause_of (faults.PortEnded port) = None
cause_of (faults.LongAnswer port) = None
cause_of (faults.NoSlave address) = None
cause_of (faults.NoMaster address) = None
cause_of (faults.NoLine number) = None
cause_of faults.BadName = None
cause_of (faults.BadGsd path) = None
cause_of faults.FewThreads = None
cause_of faults.OutputIsTerminal = None
cause_of (faults.Run fault) = None
cause_of (faults.Serve fault) = serve_cause fault
