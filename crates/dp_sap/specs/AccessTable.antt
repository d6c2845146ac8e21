-- promise
-- The access table of a slave, the points that it opens in a state, and the busy marks of its rows.
use Rattle.std.specs.Prelude.{ℕ, Bool, true, false, ◌&&◌, ◌||◌, ◌==◌, nat_eq, is_some, if◌then◌else◌, List, [], ◌∷◌, find, Option, Some, None}
use Rattle.std.specs.List.{list_any}
use Rattle.std.specs.Option.{option_eq, option_map, option_map_or, option_and_then}
use Rattle.dp_sap.specs.declared.state.State.{State}
use Rattle.dp_sap.specs.declared.state.State.TheVariants.{WaitPrm, WaitCfg, DataExch}
use Rattle.dp_sap.specs.declared.point.Access.{Access}
use Rattle.dp_sap.specs.declared.point.Access.TheVariants.{All, Only}
use Rattle.dp_sap.specs.declared.point.Service.{Service}
use Rattle.dp_sap.specs.declared.point.Service.TheVariants.{Srd, Sdn}
use Rattle.dp_sap.specs.declared.point.Point.{Point}
use Rattle.dp_sap.specs.declared.lists.Lists.{Lists}

-- whom a row admits in one state: nobody, only the holder, or every master (own)
pub data Column : Type 0 where
  off : Column
  holder : Column
  all : Column

-- a row of the table: the point, its service, whom it admits in each state, and the least and the greatest number of data octets of a request (own)
pub record Row : Type 0 where
  pub point : Option ℕ
  pub service : Service
  pub wait_prm : Column
  pub wait_cfg : Column
  pub data_exch : Column
  pub least : ℕ
  pub most : ℕ

-- a row, its parts in the order of the table's columns (own)
abbrev pub table_row : Option ℕ → Service → Column → Column → Column → ℕ → ℕ → Row
table_row point service wait_prm wait_cfg data_exch least most = record {
  point = point;
  service = service;
  wait_prm = wait_prm;
  wait_cfg = wait_cfg;
  data_exch = data_exch;
  least = least;
  most = most;
}

-- the points by their names (IEC 61158-6-3, service access points); the default point, Data_Exchange, is that of a request without DSAP
abbrev pub data_exchange : Option ℕ
data_exchange = None

abbrev pub rd_inp : Option ℕ
rd_inp = Some 56

abbrev pub rd_outp : Option ℕ
rd_outp = Some 57

abbrev pub global_control : Option ℕ
global_control = Some 58

abbrev pub get_cfg : Option ℕ
get_cfg = Some 59

abbrev pub slave_diag : Option ℕ
slave_diag = Some 60

abbrev pub set_prm : Option ℕ
set_prm = Some 61

abbrev pub chk_cfg : Option ℕ
chk_cfg = Some 62

-- the greatest number of data octets of a service (IEC 61158-6-3, data unit)
abbrev pub most_data : ℕ
most_data = 244

-- the access table of a slave with this output length (own)
abbrev pub access_table : ℕ → List Row
access_table out_len =
    -- point, service, Wait_Prm, Wait_Cfg, Data_Exch, least and most data octets
    table_row data_exchange Srd off off holder out_len out_len
    ∷ table_row rd_inp Srd off off all 0 0
    ∷ table_row rd_outp Srd off off all 0 0
    ∷ table_row global_control Sdn off off holder 2 2
    ∷ table_row get_cfg Srd all all all 0 0
    ∷ table_row slave_diag Srd all all all 0 0
    ∷ table_row set_prm Srd all holder holder 0 most_data
    ∷ table_row chk_cfg Srd off holder holder 0 most_data
    ∷ []

-- a busy mark for each point of the table (own)
pub record BusyMarks : Type 0 where
  pub data_exchange : Bool
  pub rd_inp : Bool
  pub rd_outp : Bool
  pub global_control : Bool
  pub get_cfg : Bool
  pub slave_diag : Bool
  pub set_prm : Bool
  pub chk_cfg : Bool

-- the points of a slave: its state, its holder, its output length, whether Data_Exchange may also be empty, its busy marks and its lists of masters
-- (own)
pub record PointsView : Type 0 where
  pub state : State
  pub holder : Option ℕ
  pub out_len : ℕ
  pub empty : Bool
  pub busy : BusyMarks
  pub lists : Lists

-- the same point, or the same holder (own)
abbrev pub same_point : Option ℕ → Option ℕ → Bool
same_point = option_eq nat_eq

-- the row of a point (own)
abbrev pub row_of : ℕ → Option ℕ → Option Row
row_of out_len number = find (λ row. same_point number row.point) (access_table out_len)

-- the point has a row in the table, whatever the output length (own)
abbrev pub is_in_table : Option ℕ → Bool
is_in_table number = is_some (row_of 0 number)

-- the marks with no point busy (own)
abbrev pub no_marks : BusyMarks
no_marks = record {
  data_exchange = false;
  rd_inp = false;
  rd_outp = false;
  global_control = false;
  get_cfg = false;
  slave_diag = false;
  set_prm = false;
  chk_cfg = false;
}

-- each point of the table with its mark (own)
abbrev pub marked_points : BusyMarks → List (Option ℕ × Bool)
marked_points marks =
    (data_exchange, marks.data_exchange)
    ∷ (rd_inp, marks.rd_inp)
    ∷ (rd_outp, marks.rd_outp)
    ∷ (global_control, marks.global_control)
    ∷ (get_cfg, marks.get_cfg)
    ∷ (slave_diag, marks.slave_diag)
    ∷ (set_prm, marks.set_prm)
    ∷ (chk_cfg, marks.chk_cfg)
    ∷ []

-- the busy mark of a point; a point outside the table is never busy (own)
abbrev pub is_busy : BusyMarks → Option ℕ → Bool
is_busy marks number = option_map_or (λ row. row.1) (find (λ row. same_point number row.0) (marked_points marks)) false

-- the marks with that of one point set or cleared; a point outside the table has none (own)
abbrev pub with_mark : BusyMarks → Option ℕ → Bool → BusyMarks
with_mark marks number busy = record {
  data_exchange = if same_point number data_exchange then busy else marks.data_exchange;
  rd_inp = if same_point number rd_inp then busy else marks.rd_inp;
  rd_outp = if same_point number rd_outp then busy else marks.rd_outp;
  global_control = if same_point number global_control then busy else marks.global_control;
  get_cfg = if same_point number get_cfg then busy else marks.get_cfg;
  slave_diag = if same_point number slave_diag then busy else marks.slave_diag;
  set_prm = if same_point number set_prm then busy else marks.set_prm;
  chk_cfg = if same_point number chk_cfg then busy else marks.chk_cfg;
}

-- the points of a slave, none of them busy (own)
abbrev pub unmarked : State → Option ℕ → ℕ → Bool → Lists → PointsView
unmarked state master out_len empty lists = record {
  state = state;
  holder = master;
  out_len = out_len;
  empty = empty;
  busy = no_marks;
  lists = lists;
}

-- the column of a state (own)
abbrev pub column_in : State → Row → Column
column_in WaitPrm row = row.wait_prm
column_in WaitCfg row = row.wait_cfg
column_in DataExch row = row.data_exch

-- whom a column admits under a holder; nobody if it requires a holder and there is none (own)
abbrev pub admitted : Column → Option ℕ → Option Access
admitted off master = None
admitted holder master = option_map (λ address. Only address) master
admitted all master = Some All

-- the point of a row that is on; only the default point may be empty: it takes either the octets of its row or none (own)
abbrev pub point_of : PointsView → Row → Access → Point
point_of points row access = record {
  active = true;
  access = access;
  service = row.service;
  least = row.least;
  most = row.most;
  empty = same_point row.point data_exchange && points.empty;
  busy = is_busy points.busy row.point;
}

-- the point of a row in the state; None if it is off (own)
abbrev pub opened : PointsView → Row → Option Point
opened points row = option_map (point_of points row) (admitted (column_in points.state row) points.holder)

-- the point of a number, as the access table has it in the state; None if it is off or outside the table (own)
abbrev pub access_row : PointsView → Option ℕ → Option Point
access_row points number = option_and_then (opened points) (row_of points.out_len number)

-- a slave without lists: every master may do what the points allow (own)
abbrev pub no_lists : Lists
no_lists = record { lockers = None; readers = None }

-- by the lists the sender may use Set_Prm: every master if there is no list of lockers, and those on it if there is one (own)
abbrev pub may_lock : Lists → ℕ → Bool
may_lock lists sender = option_map_or (λ masters. list_any (λ master. master == sender) masters.items) lists.lockers true

-- by the lists the sender may read inputs and outputs without holding the slave: every master if there is no list of readers, and those on it if
-- there is one (own)
abbrev pub may_read : Lists → ℕ → Bool
may_read lists sender = option_map_or (λ masters. list_any (λ master. master == sender) masters.items) lists.readers true

-- the lists of the slave let the sender use the point: Set_Prm if it may lock; RD_Inp and RD_Outp if it may read or is the holder; each other point
-- always (own)
abbrev pub is_listed : PointsView → Option ℕ → ℕ → Bool
is_listed points number sender =
    if same_point number set_prm then may_lock points.lists sender
    else if same_point number rd_inp || same_point number rd_outp then may_read points.lists sender || same_point points.holder (Some sender)
    else true
