-- The fault that was decoded is that of the octets.
use Rattle.std.proofs.Common.{refl}
use Rattle.explain_octets.proofs.kinds.write_unread.Goals as goal

pub write_fault-requires : goal.write_fault-requires
write_fault-requires g c = (c.in-Err.ensures.fault c.in-Err.fault).0 refl
