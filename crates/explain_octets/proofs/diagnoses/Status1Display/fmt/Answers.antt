use Rattle.explain_octets.proofs.diagnoses.Status1Display.fmt.Goals as goal

pub returns-clause-writes : goal.returns-clause-writes
returns-clause-writes g c = rw (c.of_bit.ensures, c.of_bit-2.ensures, c.of_bit-3.ensures, c.of_bit-4.ensures, c.of_bit-5.ensures) at c.write.ensures.writes
