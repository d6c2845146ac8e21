-- helper
-- Examples of lines that are answered.
use Rattle.std.specs.Prelude.{◌≡◌, codes, true, false, [], Some, option_map, Err, refl}
use Rattle.dp_text.specs.OperatorLines.{asked_in}
use Rattle.operate_host.specs.Answers.{asks, asks_for}

-- a comment, as a session reads text
pub comments_get_no_row : option_map asks_for (asked_in true (codes "# show 5")) ≡ Some false
comments_get_no_row = refl

pub empty_lines_get_no_row : option_map asks_for (asked_in true []) ≡ Some false
empty_lines_get_no_row = refl

pub a_step_gets_a_row : option_map asks_for (asked_in true (codes "step")) ≡ Some true
a_step_gets_a_row = refl

-- a line with only a space is no command
pub faults_get_a_row : {E : Type 0} (fault : E) → asks (Err fault) ≡ true
faults_get_a_row fault = refl
