use Rattle.dp_text.proofs.Asking.{not_text, of_text}
use Rattle.dp_text.proofs.operator_line.read_line.Goals as goal

pub returns-in_default : goal.returns-in_default
returns-in_default c = not_text c.args.octets.now c.if-octets-gt-LONGEST_LINE.false c.in_default.ensures.cases.0

pub returns-in-Ok-read_op : goal.returns-in-Ok-read_op
returns-in-Ok-read_op c =
    of_text c.args.octets.now c.in-Ok.line.now c.in-Ok-read_op.op_line c.if-octets-gt-LONGEST_LINE.false c.in-Ok.ensures.cases.0 c.in-Ok.ensures.cases.1
    c.in-Ok-read_op.ensures
