use Rattle.dp_line.proofs.Descriptions.{described, is_of}
use Rattle.dp_line.proofs.bus_laws.a_line_keeps_its_description.Goals as goal

pub returns-clause-masters : goal.returns-clause-masters
returns-clause-masters c = λ line events. (is_of line events).masters

pub returns-clause-capacity : goal.returns-clause-capacity
returns-clause-capacity c = λ line events. (is_of line events).capacity

pub returns-clause-slaves : goal.returns-clause-slaves
returns-clause-slaves c = λ line events. (is_of line events).slaves

pub returns-clause-each : goal.returns-clause-each
returns-clause-each c = described
