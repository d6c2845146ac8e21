use Rattle.std.proofs.Common.{take}
use Rattle.std.specs.List.{flat_map}
use Rattle.std.specs.Fmt.{HasWritten, IsPlainFormatter}
use Rattle.explain_events.specs.Results.{pair_row}
use Rattle.explain_events.proofs.spread.PairRowsDisplay.fmt.Given as goal

abbrev pub invariant-loop-pair : goal.invariant-loop-pair
invariant-loop-pair g l =
    IsPlainFormatter l.initial.f → HasWritten g.W.Write.write_str_gives l.initial.f
    (flat_map (pair_row l.self.context.now l.self.asked.now) (take l.pair-index l.pair-items)) l.f
