use Rattle.std.proofs.Common.{◌≡◌, ℕ, List, Option, Result, Ok, sym, ap, ◌∙◌}
use Rattle.std.specs.Prelude.{◌↔◌}
use Rattle.dp_telegram.specs.declared.fault.FrameFault.{FrameFault}
use Rattle.dp_telegram.specs.declared.frame.Frame.{Frame}
use Rattle.dp_telegram.specs.FrameText.{Spells, frame_at, reading_of, unless_faulty}
use Rattle.dp_telegram.proofs.Texts.{Spells-reading, reading-Spells}
use Rattle.dp_telegram.proofs.decoding.decode.Goals as goal

-- what is read is the frame that the octets spell
read_is_spelt : (octets : List ℕ) (result : Result Frame FrameFault) (frame : Frame) → result ≡ reading_of octets → (result ≡ Ok frame) ↔ Spells octets frame
read_is_spelt octets result frame e = (λ read. reading-Spells octets frame (sym e ∙ read), λ spelt. e ∙ Spells-reading octets frame spelt)

pub returns-in-Some-clause-frame : goal.returns-in-Some-clause-frame
returns-in-Some-clause-frame c frame =
    let octets = c.args.octets.now in
    read_is_spelt octets _ frame (ap (λ (f : Option FrameFault). unless_faulty f (frame_at octets)) c.in-Some.ensures)

pub returns-in-None-clause-frame : goal.returns-in-None-clause-frame
returns-in-None-clause-frame c frame =
    let octets = c.args.octets.now in
    read_is_spelt octets _ frame (ap Ok (c.copied.ensures ∙ c.frame_in.ensures) ∙ ap (λ (f : Option FrameFault). unless_faulty f (frame_at octets)) c.in-None.ensures)
