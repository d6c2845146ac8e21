-- Each flag is a row of the table.
use Rattle.explain_octets.specs.DpV1.{dp_v1_names}
use Rattle.explain_octets.proofs.dp_v1.StatusNamesDisplay.fmt.Goals as goal

pub returns-clause-writes : goal.returns-clause-writes
unfolding dp_v1_names
returns-clause-writes g c = rw (c.of_bit.ensures, c.of_bit-2.ensures, c.of_bit-3.ensures, c.of_bit-4.ensures, c.of_bit-5.ensures, c.of_bit-6.ensures, c.of_bit-7.ensures, c.of_bit-8.ensures, c.of_bit-9.ensures, c.of_bit-10.ensures, c.of_bit-11.ensures, c.of_bit-12.ensures, c.of_bit-13.ensures, c.of_bit-14.ensures, c.of_bit-15.ensures, c.of_bit-16.ensures, c.new.ensures, c.has_alarm_mode.ensures, c.alarm_mode.ensures) at c.write.ensures.writes
