-- detail
-- The lengths of the data of a slave (own).
use Rattle.std.specs.Prelude.{◌==◌, ◌&&◌, Bool, length}
use Rattle.dp_slave.specs.SlaveRecord.{SlaveRecord, input_length, output_length}

-- inputs and the frozen inputs, outputs and latest data are as long as the shape in force says
abbrev pub is_long : SlaveRecord → Bool
is_long slave =
    length slave.inputs == input_length slave && length slave.frozen_inputs == input_length slave
    && (length slave.outputs == output_length slave && length slave.latest == output_length slave)
