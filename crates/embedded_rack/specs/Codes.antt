-- detail
-- The numbers of faults of calls (own). The numbers 1 to 5 are those of the faults of a rack file.
use Rattle.std.specs.Prelude.{ℕ}
use Rattle.embedded_rack.specs.declared.call_fault.CallFault.{CallFault}
use Rattle.embedded_rack.specs.declared.call_fault.CallFault.TheVariants as calls

abbrev pub call_fault_code : CallFault → ℕ
call_fault_code calls.NoLine = 6
call_fault_code calls.NoMaster = 7
call_fault_code (calls.NoFrame fault) = 8
call_fault_code calls.NoCommand = 9
call_fault_code calls.NoEntry = 10
