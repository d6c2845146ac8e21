-- helper
-- Frames whose data unit is lent.
use Rattle.dp_telegram.specs.declared.frame.Frame.{Frame}
use Rattle.dp_telegram.specs.declared.frame.Frame.TheVariants as frames
use Rattle.dp_telegram.specs.declared.lent.FrameLent.{FrameLent}
use Rattle.dp_telegram.specs.declared.lent.FrameLent.TheVariants as lent

-- the frame that a `FrameLent` stands for
abbrev pub frame_lent : FrameLent → Frame
frame_lent (lent.Token da sa) = frames.Token da sa
frame_lent lent.Ack = frames.Ack
frame_lent (lent.Telegram telegram) = frames.Telegram telegram
