use Rattle.std.proofs.Common.{ap, ◌∙◌, rules, take, ℕ}
use Rattle.dp_telegram.specs.FrameText.{fault_of, frame_at}
use Rattle.dp_telegram.proofs.Fronts.{fault_parted, frame_parted, right_in_front}
use Rattle.dp_telegram.proofs.cutter.lent_frame.Goals as goal

pub new-requires : goal.new-requires
new-requires c =
    let octets = c.args.octets.now in
    ap (λ (n : ℕ). fault_of (take n octets)) c.frame_size.ensures
    ∙ fault_parted octets (right_in_front octets (search rules) (search rules) c.requires.whole) c.requires.ends

pub returns-clause-same : goal.returns-clause-same
returns-clause-same c =
    let octets = c.args.octets.now in
    ap frame_at c.new.ensures
    ∙ ap (λ (n : ℕ). frame_at (take n octets)) c.frame_size.ensures
    ∙ frame_parted octets (right_in_front octets (search rules) (search rules) c.requires.whole)
