use Rattle.std.proofs.Common.{◌≡◌, sym, ap, Some}
use Rattle.dp_telegram.specs.declared.frame.Frame.TheVariants as frames
use Rattle.dp_telegram.specs.FrameText.{frame_of}
use Rattle.cable_faults.specs.Decisions.{is_own_token as is_own_token_of}
use Rattle.cable_faults.proofs.Whole.{frame_is}
use Rattle.cable_faults.proofs.cable.is_own_token.Goals as goal

pub returns-in-Token : goal.returns-in-Token
returns-in-Token c =
    let same : Some (frames.Token c.in-Token.da c.in-Token.sa) ≡ frame_of c.args.frame.now = c.in-Token.ensures in
    sym (ap is_own_token_of (frame_is c.args.frame.now (frames.Token c.in-Token.da c.in-Token.sa) same))
