use Rattle.std.proofs.Common.{◌≡◌, Option, Some, None, if◌then◌else◌, ap, ◌∙◌, sym}
use Rattle.std.specs.Prelude.{Ok, is_none}
use Rattle.std.proofs.lemmas.Option.{same_Some}
use Rattle.dp_telegram.specs.declared.fault.FrameFault.{FrameFault}
use Rattle.dp_telegram.specs.declared.frame.Frame.{Frame}
use Rattle.dp_telegram.specs.FrameText.{delimiter, fault_of, frame_at, frame_of, reading_of, unless_faulty}
use Rattle.dp_telegram.specs.Lent.{frame_lent}
use Rattle.explain_octets.specs.Kinds.{frame_text, kind_text, reading_text}
use Rattle.explain_octets.proofs.kinds.KindDisplay.fmt.Goals as goal

-- the frame that octets spell is what is read of them
reading_by : (fault : Option FrameFault) (there frame : Frame) → (if is_none fault then Some there else None) ≡ Some frame → unless_faulty fault there ≡ Ok frame
reading_by None there frame spelt = ap Ok (same_Some there frame spelt)
reading_by (Some fault) there frame spelt = cc

pub returns-in-Some-clause-writes : goal.returns-in-Some-clause-writes
unfolding kind_text
returns-in-Some-clause-writes g c =
    let octets = c.self.inside.octets.now in
    let frame = frame_lent c.in-Some.frame in
    let spelt : frame_of octets ≡ Some frame = cc in
    let read : reading_of octets ≡ Ok frame = reading_by (fault_of octets) (frame_at octets) frame spelt in
    let text : c.args.self.now ≡ frame_text (delimiter octets) frame = sym c.self.view_is ∙ ap (λ read. reading_text read octets) read in
    rw text c.write.ensures.writes
