-- helper
-- Lines of an operator, read.
use Rattle.std.specs.Prelude.{◌≡◌, [], ◌∷◌, codes, Some, None, true, false, refl}
use Rattle.dp_line.specs.declared.event.Op.TheVariants as ops
use Rattle.dp_text.specs.declared.op_line.OpLine.TheVariants.{Event, Owned, Show, Step, Nothing}
use Rattle.dp_text.specs.OpLines.{op_line_of}
use Rattle.dp_text.specs.TextExamples.{text_on_literals}

pub inputs_in_upper_case : op_line_of (codes "in 5 AA55") ≡ Some (Event (ops.Input 5 (record { items = 0xAA ∷ 0x55 ∷ [] })))
unfolding text_on_literals
inputs_in_upper_case = refl

pub inputs_in_both_cases : op_line_of (codes "in 5 aA") ≡ Some (Event (ops.Input 5 (record { items = 0xAA ∷ [] })))
unfolding text_on_literals
inputs_in_both_cases = refl

pub no_inputs : op_line_of (codes "in 5 -") ≡ Some (Event (ops.Input 5 (record { items = [] })))
unfolding text_on_literals
no_inputs = refl

pub a_diagnosis : op_line_of (codes "diag 5 so 03Ff") ≡ Some (Event (ops.Diag 5 false true true (record { items = 0x03 ∷ 0xFF ∷ [] })))
unfolding text_on_literals
a_diagnosis = refl

pub a_busy_point : op_line_of (codes "busy 5 default on") ≡ Some (Event (ops.Busy 5 None true))
unfolding text_on_literals
a_busy_point = refl

pub a_tick : op_line_of (codes "tick 0") ≡ Some (Event (ops.Tick 0))
unfolding text_on_literals
a_tick = refl

pub a_halt : op_line_of (codes "halt") ≡ Some (Event ops.Halt)
unfolding text_on_literals
a_halt = refl

pub an_owned_list : op_line_of (codes "owned 255") ≡ Some (Owned 255)
unfolding text_on_literals
an_owned_list = refl

pub a_slave : op_line_of (codes "show 0") ≡ Some (Show 0)
unfolding text_on_literals
a_slave = refl

pub a_step : op_line_of (codes "step") ≡ Some Step
unfolding text_on_literals
a_step = refl

pub an_empty_line : op_line_of [] ≡ Some Nothing
an_empty_line = refl

pub a_comment : op_line_of (codes "# step") ≡ Some Nothing
a_comment = refl

-- ---- not a command

pub a_space : op_line_of (codes " ") ≡ None
unfolding text_on_literals
a_space = refl

pub a_comment_behind_a_space : op_line_of (codes " #") ≡ None
unfolding text_on_literals
a_comment_behind_a_space = refl

pub a_step_and_a_space : op_line_of (codes "step ") ≡ None
unfolding text_on_literals
a_step_and_a_space = refl

pub a_step_in_upper_case : op_line_of (codes "Step") ≡ None
unfolding text_on_literals
a_step_in_upper_case = refl

pub a_number_of_steps : op_line_of (codes "step 2") ≡ None
unfolding text_on_literals
a_number_of_steps = refl

pub a_carriage_return : op_line_of (codes "halt\r") ≡ None
unfolding text_on_literals
a_carriage_return = refl

pub two_spaces : op_line_of (codes "owned  1") ≡ None
unfolding text_on_literals
two_spaces = refl

pub no_master : op_line_of (codes "owned") ≡ None
unfolding text_on_literals
no_master = refl

pub a_master_too_great : op_line_of (codes "owned 256") ≡ None
unfolding text_on_literals
a_master_too_great = refl

pub a_leading_zero : op_line_of (codes "show 05") ≡ None
unfolding text_on_literals
a_leading_zero = refl

pub half_a_pair : op_line_of (codes "in 5 aa5") ≡ None
unfolding text_on_literals
half_a_pair = refl

pub flags_in_another_order : op_line_of (codes "diag 5 se -") ≡ None
unfolding text_on_literals
flags_in_another_order = refl

pub flags_in_upper_case : op_line_of (codes "diag 5 E -") ≡ None
unfolding text_on_literals
flags_in_upper_case = refl

pub too_long_a_time : op_line_of (codes "tick 4294967296") ≡ None
unfolding text_on_literals
too_long_a_time = refl

-- words of scripts only

pub a_request : op_line_of (codes "req 1 e5") ≡ None
unfolding text_on_literals
a_request = refl

pub a_journal : op_line_of (codes "journal") ≡ None
unfolding text_on_literals
a_journal = refl
