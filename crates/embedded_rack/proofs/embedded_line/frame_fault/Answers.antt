use Rattle.std.proofs.Common.{refl}
use Rattle.embedded_rack.proofs.embedded_line.frame_fault.Goals as goal

pub returns-in-Err : goal.returns-in-Err
returns-in-Err c = (c.in-Err.ensures.fault c.in-Err.fault).0 refl
