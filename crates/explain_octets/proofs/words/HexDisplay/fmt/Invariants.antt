use Rattle.std.proofs.Common.{◌∷◌, get_or, take}
use Rattle.std.specs.Fmt.{HasWritten, IsPlainFormatter}
use Rattle.explain_octets.specs.Words.{hex_text}
use Rattle.explain_octets.proofs.words.HexDisplay.fmt.Given as goal

abbrev pub invariant-loop-octet : goal.invariant-loop-octet
invariant-loop-octet g l =
    IsPlainFormatter l.fn.f → HasWritten g.W.Write.write_str_gives l.fn.f (hex_text (get_or l.self.0.now 0 0 ∷ take l.octet-index l.others)) l.f
