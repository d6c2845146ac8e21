-- detail
-- The fault of a read, by the kind of its error (own).
use Rattle.std.specs.declared.io.ErrorKind.{ErrorKind}
use Rattle.std.specs.declared.io.ErrorKind.TheVariants as kinds
use Rattle.explain_texts.specs.declared.read_fault.ReadFault.{ReadFault}
use Rattle.explain_texts.specs.declared.read_fault.ReadFault.TheVariants as faults

abbrev pub fault_of_kind : ErrorKind → ReadFault
fault_of_kind kinds.OutOfMemory = faults.OutOfMemory
fault_of_kind kind = faults.CannotRead
