-- detail
-- The heads that have texts: those whose numbers and octets are within the limits of their types (own).
use Rattle.std.specs.Prelude.{◌≡◌, ℕ, ◌<◌, true, List, map, IfSome}
use Rattle.std.specs.List.{AllByRecursion}
use Rattle.dp_responder.specs.Memory.{MasterMemory}
use Rattle.dp_prm.specs.declared.prm.Prm.{Prm}
use Rattle.dp_slave.specs.SlaveRecord.{SlaveRecord}
use Rattle.dp_line.specs.World.{Description, ascending}
use Rattle.dp_line.specs.Endless.{endless_places}
use Rattle.dp_text.specs.Events.{AreOctets}
use Rattle.audit_heads.specs.DataLengths.{is_long}
use Rattle.audit_heads.specs.Head.{Head}

abbrev pub IsOctet : ℕ → Type 0
IsOctet number = number < 256

-- parameters
pub record IsPrmWithin (prm : Prm) : Type 0 where
  pub watchdog : IfSome prm.watchdog (λ units. units < 4294967296)
  pub min_tsdr : IsOctet prm.min_tsdr
  pub group : IsOctet prm.group
  pub user : AreOctets 237 prm.user.items

-- what is remembered of a master
pub record IsMemoryWithin (memory : MasterMemory) : Type 0 where
  pub master : IsOctet memory.master
  pub reply : IfSome memory.last (λ last. AreOctets 255 last.reply)

-- a slave of a line with these masters
pub record IsSlaveWithin (masters : List ℕ) (slave : SlaveRecord) : Type 0 where
  pub address : IsOctet slave.description.address
  pub holder : IfSome slave.holder IsOctet
  pub since : slave.since < 4294967296
  pub left : IfSome slave.left (λ units. units < 4294967296)
  pub min_tsdr : IsOctet slave.min_tsdr
  pub cfg : IfSome slave.cfg IsOctet
  pub shape : IsOctet slave.shape
  pub prm : IfSome slave.prm IsPrmWithin
  pub inputs : AreOctets 244 slave.inputs
  pub frozen_inputs : AreOctets 244 slave.frozen_inputs
  pub outputs : AreOctets 244 slave.outputs
  pub latest : AreOctets 244 slave.latest
  pub diagnosis : AreOctets 238 slave.diag.octets.items
  pub memory : AllByRecursion IsMemoryWithin slave.memory
  pub remembers : map (λ m. m.master) slave.memory ≡ masters
  pub long : is_long slave ≡ true

-- a head of this line, made endless: masters and slaves are those that are described
pub record IsWithin (line : Description) (head : Head) : Type 0 where
  pub number : IsOctet line.number
  pub masters : head.world.masters ≡ line.masters
  pub capacity : head.world.capacity ≡ endless_places
  pub count : head.world.count < 4294967296
  pub time : IfSome head.time (λ units. units < 18446744073709551616)
  pub described : map (λ slave. slave.description) head.world.slaves ≡ ascending line.slaves
  pub slaves : AllByRecursion (IsSlaveWithin line.masters) head.world.slaves
