use Rattle.std.proofs.Common.{◌≡◌, Bool, true, false, if◌then◌else◌, List, ℕ, Some, None, ap, ◌∙◌, sym}
use Rattle.std.specs.Prelude.{is_none}
use Rattle.dp_telegram.specs.FrameText.{fault_of, frame_of}
use Rattle.explain_octets.proofs.read_octets.ReadOctets.frame.Goals as goal

-- octets that are stored as a frame are those that were judged
same_octets : (is_frame : Bool) (octets whole : List ℕ) → Some whole ≡ (if is_frame then Some octets else None) → whole ≡ octets
same_octets true octets whole stored = cc
same_octets false octets whole stored = cc

pub returns-in-Some : goal.returns-in-Some
returns-in-Some c =
    let same = same_octets (is_none (fault_of c.self.inside.octets.now)) c.self.inside.octets.now c.in-Some.whole (sym c.in-Some.is ∙ c.self.invariant) in
    c.frame.ensures ∙ ap frame_of (same ∙ c.self.view_is)
