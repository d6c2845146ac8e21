-- helper
-- Examples of rows of the access table.
use Rattle.std.specs.Prelude.{◌≡◌, ℕ, Bool, true, false, [], ◌∷◌, Option, Some, None, refl}
use Rattle.dp_sap.specs.declared.lists.Lists.{Lists}
use Rattle.dp_sap.specs.AccessTable.{BusyMarks, PointsView, access_row, chk_cfg, data_exchange, get_cfg, global_control, is_busy, is_listed, no_lists, no_marks, rd_inp, rd_outp, set_prm, slave_diag, unmarked, with_mark}
use Rattle.dp_sap.specs.declared.point.Access.{Access}
use Rattle.dp_sap.specs.declared.point.Access.TheVariants.{All, Only}
use Rattle.dp_sap.specs.declared.point.Point.{Point}
use Rattle.dp_sap.specs.declared.point.Service.{Service}
use Rattle.dp_sap.specs.declared.point.Service.TheVariants.{Srd, Sdn}
use Rattle.dp_sap.specs.declared.state.State.TheVariants.{WaitPrm, WaitCfg, DataExch}

-- a slave with two octets of outputs that waits for its parameters
abbrev pub waiting : PointsView
waiting = unmarked WaitPrm None 2 false no_lists

-- the same slave, held by master 1 and in data exchange
abbrev pub exchanging : PointsView
exchanging = unmarked DataExch (Some 1) 2 false no_lists

-- a point that is on and not busy
abbrev pub idle_point : Access → Service → ℕ → ℕ → Option Point
idle_point access service least most = Some (record {
  active = true;
  access = access;
  service = service;
  least = least;
  most = most;
  empty = false;
  busy = false;
})

pub anyone_sends_parameters : access_row waiting set_prm ≡ idle_point All Srd 0 244
anyone_sends_parameters = refl

pub nobody_configures_before_parameters : access_row waiting chk_cfg ≡ None
nobody_configures_before_parameters = refl

pub holder_configures : access_row (unmarked WaitCfg (Some 1) 2 false no_lists) chk_cfg ≡ idle_point (Only 1) Srd 0 244
holder_configures = refl

pub holder_exchanges_output_length : access_row exchanging data_exchange ≡ idle_point (Only 1) Srd 2 2
holder_exchanges_output_length = refl

pub anyone_reads_inputs : access_row exchanging rd_inp ≡ idle_point All Srd 0 0
anyone_reads_inputs = refl

pub holder_controls : access_row exchanging global_control ≡ idle_point (Only 1) Sdn 2 2
holder_controls = refl

pub below_the_table : access_row exchanging (Some 55) ≡ None
below_the_table = refl

pub above_the_table : access_row exchanging (Some 63) ≡ None
above_the_table = refl

-- after Clear_Data a fail-safe slave takes both of its octets or none
pub cleared_takes_none_too :
    access_row (unmarked DataExch (Some 1) 2 true no_lists) data_exchange
    ≡ Some (record { active = true; access = Only 1; service = Srd; least = 2; most = 2; empty = true; busy = false })
cleared_takes_none_too = refl

-- the other points take what they always take
pub cleared_is_controlled : access_row (unmarked DataExch (Some 1) 2 true no_lists) global_control ≡ idle_point (Only 1) Sdn 2 2
cleared_is_controlled = refl

-- a slave that only master 1 may lock, and that only its holder may read
abbrev pub one_locker : Lists
one_locker = record { lockers = Some (record { items = 1 ∷ [] }); readers = Some (record { items = [] }) }

pub locker_is_listed : is_listed (unmarked WaitPrm None 2 false one_locker) set_prm 1 ≡ true
locker_is_listed = refl

pub another_is_no_locker : is_listed (unmarked WaitPrm None 2 false one_locker) set_prm 2 ≡ false
another_is_no_locker = refl

pub another_is_no_reader : is_listed (unmarked DataExch (Some 1) 2 false one_locker) rd_inp 2 ≡ false
another_is_no_reader = refl

pub holder_reads_always : is_listed (unmarked DataExch (Some 1) 2 false one_locker) rd_outp 1 ≡ true
holder_reads_always = refl

-- a reader reads without holding the slave, and every master locks if there is no list of lockers
abbrev pub one_reader : Lists
one_reader = record { lockers = None; readers = Some (record { items = 2 ∷ 2 ∷ [] }) }

pub reader_reads : is_listed (unmarked DataExch (Some 1) 2 false one_reader) rd_outp 2 ≡ true
reader_reads = refl

pub who_is_no_reader_does_not : is_listed (unmarked DataExch (Some 1) 2 false one_reader) rd_outp 3 ≡ false
who_is_no_reader_does_not = refl

pub readers_are_not_asked_for_a_lock : is_listed (unmarked WaitPrm None 2 false one_reader) set_prm 3 ≡ true
readers_are_not_asked_for_a_lock = refl

-- an empty list lets nobody lock
pub nobody_locks : is_listed (unmarked WaitPrm None 2 false (record { lockers = Some (record { items = [] }); readers = None })) set_prm 1 ≡ false
nobody_locks = refl

pub diagnosis_has_no_list : is_listed (unmarked WaitPrm None 2 false one_locker) slave_diag 2 ≡ true
diagnosis_has_no_list = refl

pub without_lists_everybody_reads : is_listed exchanging rd_inp 2 ≡ true
without_lists_everybody_reads = refl

pub mark_of_get_cfg : with_mark no_marks get_cfg true ≡ record no_marks { get_cfg = true }
mark_of_get_cfg = refl

pub no_mark_outside_the_table : (marks : BusyMarks) → is_busy (with_mark marks (Some 63) true) (Some 63) ≡ false
no_mark_outside_the_table marks = refl

-- a mark that is set is found, whatever the marks were
abbrev IsFound : Option ℕ → Type 0
IsFound point = (marks : BusyMarks) (busy : Bool) → is_busy (with_mark marks point busy) point ≡ busy

pub data_exchange_is_marked : IsFound data_exchange
data_exchange_is_marked marks busy = refl

pub rd_inp_is_marked : IsFound rd_inp
rd_inp_is_marked marks busy = refl

pub rd_outp_is_marked : IsFound rd_outp
rd_outp_is_marked marks busy = refl

pub global_control_is_marked : IsFound global_control
global_control_is_marked marks busy = refl

pub get_cfg_is_marked : IsFound get_cfg
get_cfg_is_marked marks busy = refl

pub slave_diag_is_marked : IsFound slave_diag
slave_diag_is_marked marks busy = refl

pub set_prm_is_marked : IsFound set_prm
set_prm_is_marked marks busy = refl

pub chk_cfg_is_marked : IsFound chk_cfg
chk_cfg_is_marked marks busy = refl
