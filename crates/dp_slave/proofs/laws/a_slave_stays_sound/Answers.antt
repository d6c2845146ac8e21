use Rattle.dp_slave.proofs.Lives.{sound_after, sound_start}
use Rattle.dp_slave.proofs.laws.a_slave_stays_sound.Goals as goal

pub returns : goal.returns
returns c masters description acts fit = sound_after acts _ (sound_start masters description) fit
