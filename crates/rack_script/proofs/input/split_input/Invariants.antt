use Rattle.std.proofs.Common.{length}
use denote.Shadow.{shadow}
use denote.Text.{Utf8}
use Rattle.rack_script.proofs.Parting.{SoFar}
use Rattle.rack_script.proofs.input.split_input.Given as goal

-- none of the lines before is a mark
abbrev pub invariant-loop-line : goal.invariant-loop-line
invariant-loop-line l = SoFar l.input l.rest × shadow (Utf8 l.rest)

abbrev pub decreases-loop-line : goal.decreases-loop-line
decreases-loop-line l = length l.rest
