-- helper
-- A head, written and read.
use Rattle.std.specs.Prelude.{◌≡◌, ℕ, List, [], ◌∷◌, ◌++◌, codes, Some, None, Err, true, false, refl}
use Rattle.dp_sap.specs.declared.state.State.TheVariants.{DataExch}
use Rattle.dp_sap.specs.AccessTable.{no_marks}
use Rattle.dp_slave.specs.SlaveRecord.{SlaveRecord, starting_slave}
use Rattle.dp_line.specs.LineExamples.{slave_5}
use Rattle.dp_line.specs.World.{Description, ascending}
use Rattle.dp_line.specs.Endless.{endless_places}
use Rattle.dp_text.specs.TextExamples.{text_on_literals}
use Rattle.audit_heads.specs.Rows.{row_text}
use Rattle.audit_heads.specs.SlaveRows.{data_of_row, last_of_row, prm_of_row, prm_words, settings_of_row, settings_of, settings_words, hold_state_of, hold_state_words}
use Rattle.audit_heads.specs.Head.{Head, head_read, head_text, place_of_row, running_words, world_in}

-- the line of masters 1 and 2 with slave 5
abbrev pub line : Description
line = record { number = 7; capacity = 20000; masters = 1 ∷ 2 ∷ []; slaves = slave_5 ∷ [] }

-- master 1 holds slave 5 since place 4 and exchanges data with it, in freeze mode; its watchdog has 95 units of 100 left
abbrev pub exchanging : SlaveRecord
exchanging = record (starting_slave (1 ∷ 2 ∷ []) slave_5) {
  state = DataExch;
  holder = Some 1;
  since = 4;
  min_tsdr = 60;
  prm = Some (record { watchdog = Some 100; sync_req = false; freeze_req = true; min_tsdr = 60; group = 3; user = record { items = 0x0A ∷ 0xFF ∷ [] } });
  cfg = Some 0;
  inputs = 0xAA ∷ 0x55 ∷ [];
  frozen_inputs = 0xAA ∷ 0x54 ∷ [];
  outputs = 0x01 ∷ 0x02 ∷ [];
  latest = 0x01 ∷ 0x02 ∷ [];
  freeze_mode = true;
  left = Some 95;
  diag = record { ext = true; stat = false; overflow = false; octets = record { items = 0x04 ∷ 0x07 ∷ [] }; unread = true; prm_fault = false; cfg_fault = false; not_supported = false };
  busy = record no_marks { slave_diag = true };
  memory =
      (record { master = 1; last = Some (record { fcb = true; reply = 0x68 ∷ 0x05 ∷ 0x05 ∷ 0x68 ∷ 0x01 ∷ 0x05 ∷ 0x0A ∷ 0xAA ∷ 0x54 ∷ 0x0E ∷ 0x16 ∷ [] }) })
      ∷ (record { master = 2; last = None }) ∷ [];
}

-- 7160 entries came before, and 18929 units of time
abbrev pub head : Head
head = record {
  world = record { masters = 1 ∷ 2 ∷ []; capacity = endless_places; count = 7160; halted = false; slaves = exchanging ∷ [] };
  time = Some 18929;
}

-- its text
abbrev pub text : List ℕ
text =
    codes "rack-audit 3 line 7 from 7160\n"
    ++ codes "line running 18929\n"
    ++ codes "slave 5 DataExch 1 4 95 -----d--\n"
    ++ codes "set 5 60 0 0 -f-\n"
    ++ codes "prm 5 100 -f 60 3 0aff\n"
    ++ codes "in 5 aa55 aa54\n"
    ++ codes "out 5 0102 0102\n"
    ++ codes "diag 5 e--u--- 0407\n"
    ++ codes "last 5 1 1 6805056801050aaa540e16\n"
    ++ codes "last 5 2 none\n"

pub it_is_written : head_text 7 head ≡ text
unfolding head_text text_on_literals
it_is_written = refl

-- ---- rows at the start of a line

abbrev pub waiting : SlaveRecord
waiting = starting_slave (1 ∷ 2 ∷ []) slave_5

pub a_waiting_slave : row_text (hold_state_words 5 (hold_state_of waiting)) ≡ codes "slave 5 WaitPrm none 0 off --------\n"
unfolding text_on_literals
a_waiting_slave = refl

pub its_settings : row_text (settings_words 5 (settings_of waiting)) ≡ codes "set 5 11 none 0 ---\n"
unfolding text_on_literals
its_settings = refl

pub no_parameters : row_text (prm_words 5 None) ≡ codes "prm 5 none\n"
unfolding text_on_literals
no_parameters = refl

pub before_the_first_tick : row_text (running_words (record { halted = true; time = None })) ≡ codes "line halted none\n"
before_the_first_tick = refl

-- ---- read

pub the_place_is_read : place_of_row 7 (codes "rack-audit 3 line 7 from 7160") ≡ Some 7160
unfolding text_on_literals
the_place_is_read = refl

pub settings_are_read : settings_of_row 5 (codes "set 5 60 0 0 -f-") ≡ Some (settings_of exchanging)
unfolding text_on_literals
settings_are_read = refl

pub parameters_are_read : prm_of_row 5 (codes "prm 5 100 -f 60 3 0aff") ≡ Some exchanging.prm
unfolding text_on_literals
parameters_are_read = refl

-- ---- not read

pub another_line : place_of_row 7 (codes "rack-audit 3 line 8 from 7160") ≡ None
unfolding text_on_literals
another_line = refl

pub another_version : place_of_row 7 (codes "rack-audit 2 line 7 from 7160") ≡ None
unfolding text_on_literals
another_version = refl

pub another_slave : settings_of_row 5 (codes "set 6 60 0 0 -f-") ≡ None
unfolding text_on_literals
another_slave = refl

pub another_letter : settings_of_row 5 (codes "set 5 60 0 0 -s-") ≡ None
unfolding text_on_literals
another_letter = refl

pub a_leading_zero : settings_of_row 5 (codes "set 5 060 0 0 -f-") ≡ None
unfolding text_on_literals
a_leading_zero = refl

pub upper_case : data_of_row (codes "in") 5 (codes "in 5 AA55 aa54") ≡ None
unfolding text_on_literals
upper_case = refl

pub two_spaces : last_of_row 5 2 (codes "last 5  2 none") ≡ None
unfolding text_on_literals
two_spaces = refl

-- the row of the slave is missing: row 3 is wrong
pub a_missing_row : world_in line (codes "rack-audit 3 line 7 from 7160\nline running 18929\nset 5 60 0 0 -f-\n") ≡ Err 3
unfolding world_in head_read ascending text_on_literals
a_missing_row = refl

-- the text ends within row 2
pub no_end_of_a_row : world_in line (codes "rack-audit 3 line 7 from 7160\nline running 18929") ≡ Err 2
unfolding world_in head_read ascending text_on_literals
no_end_of_a_row = refl

-- the inputs have three octets, and the shape says two: the rows of the slave begin with row 3
pub other_lengths : world_in line (
    codes "rack-audit 3 line 7 from 7160\n"
    ++ codes "line running 18929\n"
    ++ codes "slave 5 DataExch 1 4 95 -----d--\n"
    ++ codes "set 5 60 0 0 -f-\n"
    ++ codes "prm 5 100 -f 60 3 0aff\n"
    ++ codes "in 5 aa55aa aa54\n"
    ++ codes "out 5 0102 0102\n"
    ++ codes "diag 5 e--u--- 0407\n"
    ++ codes "last 5 1 none\n"
    ++ codes "last 5 2 none\n") ≡ Err 3
unfolding world_in head_read ascending text_on_literals
other_lengths = refl
