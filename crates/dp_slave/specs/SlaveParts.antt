-- detail
-- A slave in the line's lists: its record, and its links, which the policy doesn't mention (own).
use Rattle.dp_owners.specs.declared.links.Links.{Links}
use Rattle.dp_slave.specs.SlaveRecord.{SlaveRecord}

pub record SlaveParts : Type 0 where
  pub slave : SlaveRecord
  pub links : Links

-- only the slave changes
abbrev pub with_slave : SlaveParts → SlaveRecord → SlaveParts
with_slave parts slave = record parts { slave = slave }
