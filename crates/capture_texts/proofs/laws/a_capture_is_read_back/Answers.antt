use Rattle.capture_texts.proofs.ReadBack.{blocks_read, telegrams_read}
use Rattle.capture_texts.proofs.laws.a_capture_is_read_back.Goals as goal

pub returns-clause-blocks : goal.returns-clause-blocks
returns-clause-blocks c = blocks_read

pub returns-clause-telegrams : goal.returns-clause-telegrams
returns-clause-telegrams c = telegrams_read
