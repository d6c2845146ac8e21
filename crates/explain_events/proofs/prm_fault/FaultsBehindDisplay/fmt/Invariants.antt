use Rattle.std.proofs.Common.{take}
use Rattle.std.specs.List.{flat_map}
use Rattle.std.specs.Fmt.{HasWritten, IsPlainFormatter}
use Rattle.explain_events.specs.Services.{prm_fault_behind}
use Rattle.explain_events.proofs.prm_fault.FaultsBehindDisplay.fmt.Given as goal

abbrev pub invariant-loop-fault : goal.invariant-loop-fault
invariant-loop-fault g l =
    IsPlainFormatter l.initial.f → HasWritten g.W.Write.write_str_gives l.initial.f (flat_map prm_fault_behind (take l.fault-index l.fault-items)) l.f
