use Rattle.std.proofs.Common.{take}
use Rattle.std.specs.Fmt.{HasWritten, IsPlainFormatter}
use Rattle.explain_texts.specs.JsonValues.{inside_json}
use Rattle.explain_texts.proofs.json_values.InsideDisplay.fmt.Given as goal

abbrev pub invariant-loop-octet : goal.invariant-loop-octet
invariant-loop-octet g l = IsPlainFormatter l.initial.f → HasWritten g.W.Write.write_str_gives l.initial.f (inside_json (take l.octet-index l.octet-items)) l.f
