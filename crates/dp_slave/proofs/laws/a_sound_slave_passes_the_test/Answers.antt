use Rattle.dp_slave.proofs.Sounds.{sound_passes}
use Rattle.dp_slave.proofs.laws.a_sound_slave_passes_the_test.Goals as goal

pub returns : goal.returns
returns c slave sound shaped = sound_passes slave sound shaped
