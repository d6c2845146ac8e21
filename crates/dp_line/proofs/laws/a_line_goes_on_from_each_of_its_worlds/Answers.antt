use Rattle.dp_line.proofs.ReachableLines.{HasLaws}
use Rattle.dp_line.proofs.SoundWorlds.{goes_on_from_each}
use Rattle.dp_line.proofs.laws.a_line_goes_on_from_each_of_its_worlds.Goals as goal

pub returns : goal.returns
returns c =
    let laws : HasLaws = record {
      sound = c.a_slave_stays_sound.ensures;
      agree = c.relation_and_computation_agree.ensures;
      suits_it = c.a_request_suits_the_slave.ensures;
      starts = c.a_slave_stays_reachable.ensures.start;
      goes_on = c.a_slave_stays_reachable.ensures.act;
    } in
    goes_on_from_each laws c.a_sound_slave_passes_the_test.ensures
