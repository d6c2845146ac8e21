-- detail
-- What a line of the operator asks for, apart from the event that it makes (own).
use Rattle.std.specs.Prelude.{◌≡◌, Option, option_map}
use Rattle.dp_line.specs.declared.event.Event.{Event}
use Rattle.dp_line.specs.declared.event.Event.TheVariants.{Operator}
use Rattle.dp_line.specs.declared.event.Op.{Op}
use Rattle.dp_text.specs.declared.op_line.OpLine.{OpLine}
use Rattle.dp_text.specs.declared.op_line.OpLineKind.{OpLineKind}
use Rattle.dp_text.specs.OpLines.{line_asked}

-- the event is one of the operator, and together with it the result stands for this line
abbrev pub IsAsked : Option OpLine → Option OpLineKind → Event → Type 0
IsAsked line asked event = (op : Op) × (event ≡ Operator op) × (option_map (line_asked op) asked ≡ line)
