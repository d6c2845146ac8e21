use Rattle.dp_line.proofs.ServicesDone.{configured}
use Rattle.dp_line.proofs.bus_laws.a_good_chk_cfg_puts_its_shape_in_force.Goals as goal

pub returns : goal.returns
returns c = configured c.a_slave_stays_sound.ensures c.relation_and_computation_agree.ensures
